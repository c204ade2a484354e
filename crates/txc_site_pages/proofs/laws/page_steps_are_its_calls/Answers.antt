use Rattle.txc_site_pages.proofs.Pages.{page_steps_are_its_calls}
use Rattle.txc_site_pages.proofs.laws.page_steps_are_its_calls.Goals as goal

pub returns : goal.returns
returns c = page_steps_are_its_calls

use Rattle.txc_site_pages.proofs.reading.read_page.Given as goal

-- the client as it is, and these bounds
abbrev pub ghosts-read_begun : goal.ghosts-read_begun
ghosts-read_begun g a = record { client = a.client; bounds = a.bounds }

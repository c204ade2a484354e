use Rattle.toml.specs.View.{table_view}
use Rattle.txc_script_settings.proofs.Allowed.{setting_within}
use Rattle.txc_script_settings.proofs.keys.setting.Goals as goal

pub returns-clause-bound : goal.returns-clause-bound
returns-clause-bound c = λ least most range low high.
    rw c.number_at.ensures (setting_within (table_view c.args.table.now) c.args.key.now c.args.default least most c.requires range low high)

use Rattle.std.proofs.Common.{refl}
use Rattle.toml.proofs.Views.{table_get}
use Rattle.txc_script_settings.proofs.keys.number_at.Goals as goal

pub returns-in-Some-natural_of : goal.returns-in-Some-natural_of
returns-in-Some-natural_of c =
    let found = table_get c.get.result c.args.key.now c.args.table.now.entries c.get.ensures.value in
    rw (← found, c.in-Some.is, ← c.natural_of.ensures, c.in-Some-natural_of.is) refl

pub returns-in-None-natural_of : goal.returns-in-None-natural_of
returns-in-None-natural_of c =
    let found = table_get c.get.result c.args.key.now c.args.table.now.entries c.get.ensures.value in
    rw (← found, c.in-Some.is, ← c.natural_of.ensures, c.in-None-natural_of.is) refl

pub returns-in-None : goal.returns-in-None
returns-in-None c =
    let found = table_get c.get.result c.args.key.now c.args.table.now.entries c.get.ensures.value in
    rw (← found, c.in-None.is) refl

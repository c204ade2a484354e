use Rattle.std.proofs.Common.{arith, refl}
use Rattle.txc_script_settings.proofs.settings.Settings.read.Goals as goal

pub invariant_of-result : goal.invariant_of-result
invariant_of-result c = record {
  capacity_in_range = c.setting.ensures.bound 1 65536 refl (omega arith) (omega arith);
  nodes_in_range = c.setting-2.ensures.bound 1 64 refl (omega arith) (omega arith);
  permits_in_range = c.setting-3.ensures.bound 1 1024 refl (omega arith) (omega arith);
  recent_in_range = c.setting-4.ensures.bound 1 4096 refl (omega arith) (omega arith);
  renew_after_in_range = (c.setting-5.ensures.bound 0 4294967295 refl (omega arith) (omega arith)).1;
  row_cap_in_range = c.setting-6.ensures.bound 1 1048576 refl (omega arith) (omega arith);
  workers_in_range = c.setting-7.ensures.bound 1 8 refl (omega arith) (omega arith);
}

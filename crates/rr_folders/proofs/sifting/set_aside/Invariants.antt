use Rattle.std.proofs.Common.{◌≡◌, ◌++◌, take, drop}
use Rattle.rr_folders.specs.Sifts.{set_aside}
use Rattle.rr_folders.proofs.sifting.set_aside.Given as goal

-- those before this one are set aside if they are to be
abbrev pub invariant-loop-index : goal.invariant-loop-index
invariant-loop-index l = l.readings ≡ set_aside l.without 0 (take l.index l.initial.readings) ++ drop l.index l.initial.readings

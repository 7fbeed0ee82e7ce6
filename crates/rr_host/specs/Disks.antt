-- A disk whose device calls a host makes: what it holds, and what exactly its calls give.
use Rattle.std.specs.Prelude.{◌≡◌, ◌⊎◌, ℕ, ◌+◌, ◌≤◌, max, List, length, Option, None, Some, Result, Ok, Err, MatchResult, Vec}
use Rattle.std.specs.declared.alloc.Global.{Global}
use Rattle.rr_types.specs.declared.refusal.Refusal.{Refusal}
use Rattle.rr_types.specs.declared.refusal.Refusal.TheVariants.{Device}
use Rattle.rr_types.specs.Counts.{counted}
use Rattle.rr_disk.specs.declared.area.Area.{Area}
use Rattle.rr_disk.specs.declared.area.Area.TheVariants.{First, Second}

-- a write that the host is asked for
pub record Asked : Type 0 where
  pub area : Area
  pub at : ℕ
  pub bytes : List ℕ

-- the bytes of both areas until they are read, the lengths by what was written, the write that the host is asked for, and how many device calls
-- were made and failed, and how many of them were syncs
pub record DiskState : Type 0 where
  pub first : Option (List ℕ)
  pub second : Option (List ℕ)
  pub first_len : ℕ
  pub second_len : ℕ
  pub written : Option Asked
  pub calls : ℕ
  pub faults : ℕ
  pub syncs : ℕ

-- the length of one area once something stands there up to this end, by whether it was written in it
abbrev pub first_reaching : Area → ℕ → ℕ → ℕ
first_reaching First end len = max len end
first_reaching Second end len = len

abbrev pub second_reaching : Area → ℕ → ℕ → ℕ
second_reaching First end len = len
second_reaching Second end len = max len end

-- the host is asked for this write
abbrev pub noted : Area → ℕ → List ℕ → DiskState → DiskState
noted area at bytes d =
    record d {
      first_len = first_reaching area (at + length bytes) d.first_len;
      second_len = second_reaching area (at + length bytes) d.second_len;
      written = Some (record { area = area; at = at; bytes = bytes });
    }

-- one more device call
abbrev pub called : DiskState → DiskState
called d = record d { calls = counted d.calls }

-- one more that failed
abbrev pub fell : DiskState → DiskState
fell d = record d { calls = counted d.calls; faults = counted d.faults }

-- the bytes of an area, until they are read
abbrev pub held_of : DiskState → Area → Option (List ℕ)
held_of d First = d.first
held_of d Second = d.second

-- what is left of one area's bytes once an area is read
abbrev pub first_left : Area → Option (List ℕ) → Option (List ℕ)
first_left First held = None
first_left Second held = held

abbrev pub second_left : Area → Option (List ℕ) → Option (List ℕ)
second_left First held = held
second_left Second held = None

-- the disk whose area is read
abbrev pub let_go : Area → DiskState → DiskState
let_go area d = record d { first = first_left area d.first; second = second_left area d.second }

-- a read gives a whole area that isn't read yet, once
abbrev pub HostRead : DiskState → Area → ℕ → ℕ → Result (Vec ℕ Global) Refusal → DiskState → Type 0
HostRead old area at count result new =
    MatchResult result (λ v. (at ≡ 0) × (length v.items ≤ count) × (held_of old area ≡ Some v.items) × (new ≡ called (let_go area old)))
    (λ e. (e ≡ Device) × (new ≡ fell (let_go area old)))

-- a write is noted, where none waits
abbrev pub HostWrite : DiskState → Area → ℕ → List ℕ → Result (Unit {0}) Refusal → DiskState → Type 0
HostWrite old area at bytes result new =
    MatchResult result (λ _. (old.written ≡ None) × (new ≡ called (noted area at bytes old))) (λ e. (e ≡ Device) × (new ≡ fell old))

-- a sync is made: no write waits
abbrev pub HostSync : DiskState → Result (Unit {0}) Refusal → DiskState → Type 0
HostSync old result new = (result ≡ Ok tt) × (new ≡ record old { written = None; calls = counted old.calls; syncs = counted old.syncs })

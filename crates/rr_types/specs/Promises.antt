-- The promise of a list of facts: where each instance stands, whether facts fit, and which commands are decided without a gap.
use Rattle.std.specs.Prelude.{ℕ, ◌+◌, ◌<◌, Bool, true, ◌&&◌, ◌==◌, nat_lt, if◌then◌else◌, List, [], ◌∷◌, Option, None, Some}
use Rattle.rr_types.specs.declared.fact.Fact.{Fact}
use Rattle.rr_types.specs.declared.promise.Standing.{Standing}
use Rattle.rr_types.specs.declared.promise.Entry.{Entry}
use Rattle.rr_types.specs.Facts.{instance_of, after_fact, decision_of}
use Rattle.rr_types.specs.Standings.{fits}
use Rattle.rr_types.specs.declared.command.Command.{Command}

-- each instance lies above the one before it, the first above or at the bound
abbrev pub AscendsFrom : ℕ → List Entry → Type 0
AscendsFrom low [] = Unit {0}
AscendsFrom low (e ∷ es) = (low < e.instance + 1) × AscendsFrom (e.instance + 1) es

-- the entries ascend by their instances
pub record IsAscending (entries : List Entry) : Type 0 where
  pub ascends : AscendsFrom 0 entries

-- where instance i stands by the entries of a promise
abbrev pub standing_in : List Entry → ℕ → Option Standing
standing_in [] i = None
standing_in (e ∷ es) i = if e.instance == i then Some e.standing else standing_in es i

-- the entries with this standing of instance i, in their order; no standing leaves them
abbrev pub set_entry : ℕ → Standing → List Entry → List Entry
set_entry i s [] = record { instance = i; standing = s } ∷ []
set_entry i s (e ∷ es) =
    if nat_lt i e.instance
    then record { instance = i; standing = s } ∷ e ∷ es
    else (if i == e.instance then record { instance = i; standing = s } ∷ es else e ∷ set_entry i s es)

-- the entries with this standing of instance i, if there is one
abbrev pub set_standing : ℕ → Option Standing → List Entry → List Entry
set_standing i None es = es
set_standing i (Some s) es = set_entry i s es

-- the promise after one more fact
abbrev pub take_on : List Entry → Fact → List Entry
take_on es f = set_standing (instance_of f) (after_fact (standing_in es (instance_of f)) f) es

-- the promise after more facts, oldest first
abbrev pub take_on_all : List Entry → List Fact → List Entry
take_on_all es [] = es
take_on_all es (f ∷ fs) = take_on_all (take_on es f) fs

-- the promise of a list of facts: where each instance stands that they name, ascending
abbrev pub promise_of : List Fact → List Entry
promise_of facts = take_on_all [] facts

-- whether each fact of node p of n fits the promise before it
abbrev pub all_fit : ℕ → ℕ → List Entry → List Fact → Bool
all_fit n p es [] = true
all_fit n p es (f ∷ fs) = fits n p (standing_in es (instance_of f)) f && all_fit n p (take_on es f) fs

-- the commands decided without a gap from instance i on by the entries of a promise
abbrev pub decided_from : ℕ → List Entry → List Command
decided_from i [] = []
decided_from i (e ∷ es) = if e.instance == i then decided_first (decision_of (Some e.standing)) (decided_from (i + 1) es) else []
  where
    decided_first : Option Command → List Command → List Command
    decided_first None rest = []
    decided_first (Some v) rest = v ∷ rest

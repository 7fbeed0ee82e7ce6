-- A group is of the oldest staged facts, and a mark at the end of the running group marks it.
use Rattle.std.proofs.Common.{◌≡◌, ◌≢◌, ◌+◌, ◌^◌, ◌<◌, ◌≤◌, ℕ, arith, min, false, List, [], length, take, ap, sym, ◌∙◌, refl, Option, Some, None, is_some, option_map}
use Rattle.std.specs.Option.{option_map_or}
use Rattle.std.proofs.lemmas.List.{length-take}
use Rattle.std.proofs.lemmas.Bool.{false≢true}
use Rattle.rr_types.specs.declared.fact.Fact.{Fact}
use Rattle.rr_types.specs.declared.promise.Entry.{Entry}
use Rattle.rr_types.specs.Groups.{Grouped}
use Rattle.rr_types.specs.Promises.{take_on_all}
use Rattle.rr_model.specs.NodeState.{NodeState}
use Rattle.rr_model.specs.NodeStep.{running_group, marked_running}

-- the oldest staged facts make a group
pub front_fits : (m n : ℕ) (running : Option (List Fact)) (staged facts : List Fact) → is_some running ≡ false → n ≡ option_map_or length running 0 + length staged → n ≢ 0 → facts ≡ take 64 staged → m + option_map_or length running 0 + length staged < 2 ^ 64 → (1 ≤ length facts) × (length facts ≤ 64) × (m + length facts < 2 ^ 64)
front_fits m n (Some running) staged facts e f g h l = absurd (false≢true (sym e))
front_fits m n None staged facts e f g h l =
    let count : length facts ≡ min 64 (length staged) = ap (λ (r : List Fact). length r) h ∙ length-take 64 staged in
    let there : 0 + length staged ≢ 0 = (λ z. g (f ∙ z)) in
    (omega arith, omega arith, omega arith)

-- what runs, by its group
runs_by : (marked : ℕ) (running : Option (List Fact)) (group : Grouped) → option_map (λ (facts : List Fact). record { serial = marked; facts = facts }) running ≡ Some group → (running ≡ Some group.facts) × (group.serial ≡ marked)
runs_by marked None group e = absurd cc
runs_by marked (Some facts) group e =
    let is : record { serial = marked; facts = facts } ≡ group = cc in
    (ap (λ (g : Grouped). Some g.facts) is, ap (λ (g : Grouped). g.serial) (sym is))

pub runs_is : (s : NodeState) (group : Grouped) → running_group s ≡ Some group → (s.running ≡ Some group.facts) × (group.serial ≡ s.marked_end)
runs_is s group e = runs_by s.marked_end s.running group e

-- a mark at the end of the running group marks it
pub marked_by : (s : NodeState) (group : Grouped) (entries : List Entry) → running_group s ≡ Some group → entries ≡ take_on_all s.marked (option_map_or (λ facts. facts) s.running []) → record s { running = None; marked = entries; marked_end = group.serial + length group.facts } ≡ marked_running s
unfolding marked_running
marked_by s group entries e f = let runs = runs_is s group e in rw (f, runs.0, runs.1) refl

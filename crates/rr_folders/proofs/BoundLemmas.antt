-- The names of a registry ascend, and are no more than it holds.
use Rattle.std.proofs.Common.{◌≡◌, ℕ, suc, ◌+◌, ◌≤◌, Bool, true, false, ◌==◌, nat_lt, List, [], ◌∷◌, length, Option, None, Some, Ordering, refl, sym, ap, ◌∙◌, arith}
use Rattle.std.specs.declared.cmp.Ordering.TheVariants.{Less, Equal, Greater}
use Rattle.std.specs.Ordering.{nat_cmp, is_eq, ordering_reverse}
use Rattle.std.specs.Cmp.Lexicographic.{slice_cmp}
use Rattle.std.specs.Str.{bytes_eq}
use Rattle.std.specs.List.{AllByRecursion, fold}
use Rattle.std.specs.BTreeMap.{insert_entry}
use Rattle.std.specs.Map.{remove_entry}
use Rattle.std.proofs.lemmas.Bool.{ltb-true}
use Rattle.std.proofs.lemmas.Cmp.{nat_list_cmp_total}
use Rattle.std.proofs.lemmas.Map.Text.{is_eq-slice_cmp}
use Rattle.rr_types.specs.declared.command.Op.{Op}
use Rattle.rr_types.specs.declared.command.Op.TheVariants.{Claim, Update, Release, Transfer}
use Rattle.rr_types.specs.declared.command.Command.{Command}
use Rattle.rr_types.specs.declared.command.Reply.{Reply}
use Rattle.rr_types.specs.Limits.{max_bound}
use Rattle.rr_types.specs.Registry.{Holding, Bindings, holding_of, bind, claim, by_owner, apply_op, apply, firsts, registry_of}

-- the order of names
abbrev pub order : List ℕ → List ℕ → Ordering
order = slice_cmp nat_cmp

abbrev pub AreAbove : List ℕ → Bindings → Type 0
AreAbove name m = AllByRecursion (λ b. order name b.0 ≡ Less) m

-- each name is below those after it
abbrev pub Ascend : Bindings → Type 0
Ascend [] = Unit {0}
Ascend (b ∷ bs) = AreAbove b.0 bs × Ascend bs

-- the names ascend, and are no more than a registry holds
abbrev pub AreKept : Bindings → Type 0
AreKept m = Ascend m × (length m ≤ max_bound)

pub reversed : (x y : List ℕ) (o : Ordering) → order x y ≡ o → order y x ≡ ordering_reverse o
reversed x y o is = nat_list_cmp_total.antisymm y x ∙ ap ordering_reverse is

further : (x y : List ℕ) (m : Bindings) → order x y ≡ Less → AreAbove y m → AreAbove x m
further x y [] less above = tt
further x y (b ∷ bs) less above = (nat_list_cmp_total.trans x y b.0 less above.0, further x y bs less above.1)

above_by : (x name : List ℕ) (h : Holding) (b : List ℕ × Holding) (bs : Bindings) → order x name ≡ Less → AreAbove x (b ∷ bs) → AreAbove x (insert_entry order bs name h) → (o : Ordering) → order name b.0 ≡ o → AreAbove x (insert_entry order (b ∷ bs) name h)
above_by x name h b bs less above more Less is = rw is (less, above)
above_by x name h b bs less above more Equal is = rw is above
above_by x name h b bs less above more Greater is = rw is (above.0, more)

above_inserted : (x name : List ℕ) (h : Holding) (m : Bindings) → order x name ≡ Less → AreAbove x m → AreAbove x (insert_entry order m name h)
above_inserted x name h [] less above = (less, tt)
above_inserted x name h (b ∷ bs) less above = above_by x name h b bs less above (above_inserted x name h bs less above.1) (order name b.0) refl

ascend_by : (name : List ℕ) (h : Holding) (b : List ℕ × Holding) (bs : Bindings) → Ascend (b ∷ bs) → Ascend (insert_entry order bs name h) → (o : Ordering) → order name b.0 ≡ o → Ascend (insert_entry order (b ∷ bs) name h)
ascend_by name h b bs up more Less is = rw is ((is, further name b.0 bs is up.0), up)
ascend_by name h b bs up more Equal is = rw is up
ascend_by name h b bs up more Greater is = rw is (above_inserted b.0 name h bs (reversed name b.0 Greater is) up.0, more)

ascend_inserted : (name : List ℕ) (h : Holding) (m : Bindings) → Ascend m → Ascend (insert_entry order m name h)
ascend_inserted name h [] up = (tt, tt)
ascend_inserted name h (b ∷ bs) up = ascend_by name h b bs up (ascend_inserted name h bs up.1) (order name b.0) refl

most_by : (name : List ℕ) (h : Holding) (b : List ℕ × Holding) (bs : Bindings) → length (insert_entry order bs name h) ≤ length bs + 1 → (o : Ordering) → order name b.0 ≡ o → length (insert_entry order (b ∷ bs) name h) ≤ length bs + 2
most_by name h b bs more Less is = rw is (omega arith)
most_by name h b bs more Equal is = rw is (omega arith)
most_by name h b bs more Greater is = rw is (omega (arith, more))

-- at most one name more
most_inserted : (name : List ℕ) (h : Holding) (m : Bindings) → length (insert_entry order m name h) ≤ length m + 1
most_inserted name h [] = omega arith
most_inserted name h (b ∷ bs) = let more = most_by name h b bs (most_inserted name h bs) (order name b.0) refl in omega (arith, more)

-- names that are above aren't this one
pub none_above : (name : List ℕ) (m : Bindings) → AreAbove name m → holding_of m name ≡ None
none_above name [] above = refl
none_above name (b ∷ bs) above =
    let apart : bytes_eq name b.0 ≡ false = sym (is_eq-slice_cmp name b.0) ∙ ap is_eq above.0 in
    rw apart (none_above name bs above.1)

same_by : (name : List ℕ) (h g : Holding) (b : List ℕ × Holding) (bs : Bindings) → Ascend (b ∷ bs) → holding_of (b ∷ bs) name ≡ Some g → (holding_of bs name ≡ Some g → length (insert_entry order bs name h) ≡ length bs) → (o : Ordering) → order name b.0 ≡ o → length (insert_entry order (b ∷ bs) name h) ≡ length (b ∷ bs)
same_by name h g b bs up there more Less is =
    let none = sym (none_above name (b ∷ bs) (is, further name b.0 bs is up.0)) ∙ there in
    absurd cc
same_by name h g b bs up there more Equal is = rw is refl
same_by name h g b bs up there more Greater is =
    let apart : bytes_eq name b.0 ≡ false = sym (is_eq-slice_cmp name b.0) ∙ ap is_eq is in
    rw is (ap suc (more (rw apart at there)))

-- a bound name stays one name
same_inserted : (name : List ℕ) (h g : Holding) (m : Bindings) → Ascend m → holding_of m name ≡ Some g → length (insert_entry order m name h) ≡ length m
same_inserted name h g [] up there = absurd cc
same_inserted name h g (b ∷ bs) up there = same_by name h g b bs up there (same_inserted name h g bs up.1) (order name b.0) refl

above_removed_by : (x name : List ℕ) (b : List ℕ × Holding) (bs : Bindings) → AreAbove x (b ∷ bs) → AreAbove x (remove_entry (bytes_eq name) bs) → (t : Bool) → bytes_eq name b.0 ≡ t → AreAbove x (remove_entry (bytes_eq name) (b ∷ bs))
above_removed_by x name b bs above more true is = rw is above.1
above_removed_by x name b bs above more false is = rw is (above.0, more)

above_removed : (x name : List ℕ) (m : Bindings) → AreAbove x m → AreAbove x (remove_entry (bytes_eq name) m)
above_removed x name [] above = tt
above_removed x name (b ∷ bs) above = above_removed_by x name b bs above (above_removed x name bs above.1) (bytes_eq name b.0) refl

kept_removed_by : (name : List ℕ) (b : List ℕ × Holding) (bs : Bindings) → Ascend (b ∷ bs) → Ascend (remove_entry (bytes_eq name) bs) × (length (remove_entry (bytes_eq name) bs) ≤ length bs) → (t : Bool) → bytes_eq name b.0 ≡ t → Ascend (remove_entry (bytes_eq name) (b ∷ bs)) × (length (remove_entry (bytes_eq name) (b ∷ bs)) ≤ length (b ∷ bs))
kept_removed_by name b bs up more true is = rw is (up.1, omega arith)
kept_removed_by name b bs up more false is = rw is ((above_removed b.0 name bs up.0, more.0), omega (arith, more.1))

kept_removed : (name : List ℕ) (m : Bindings) → Ascend m → Ascend (remove_entry (bytes_eq name) m) × (length (remove_entry (bytes_eq name) m) ≤ length m)
kept_removed name [] up = (tt, omega arith)
kept_removed name (b ∷ bs) up = kept_removed_by name b bs up (kept_removed name bs up.1) (bytes_eq name b.0) refl

bound_kept : (m : Bindings) (name : List ℕ) (owner : ℕ) (value : List ℕ) (g : Holding) → AreKept m → holding_of m name ≡ Some g → AreKept (bind m name owner value)
bound_kept m name owner value g kept there =
    let same = same_inserted name (record { owner = owner; value = value }) g m kept.0 there in
    (ascend_inserted name (record { owner = owner; value = value }) m kept.0, omega (arith, same, kept.1))

claimed_kept : (m : Bindings) (client : ℕ) (name value : List ℕ) → AreKept m → (room : Bool) → nat_lt (length m) max_bound ≡ room → AreKept (claim m client name value None).0
claimed_kept m client name value kept true room =
    let lt = ltb-true (length m) max_bound room in
    let most = most_inserted name (record { owner = client; value = value }) m in
    rw room (ascend_inserted name (record { owner = client; value = value }) m kept.0, omega (arith, most, lt))
claimed_kept m client name value kept false room = rw room kept

claim_kept : (m : Bindings) (client : ℕ) (name value : List ℕ) → AreKept m → (o : Option Holding) → AreKept (claim m client name value o).0
claim_kept m client name value kept None = claimed_kept m client name value kept (nat_lt (length m) max_bound) refl
claim_kept m client name value kept (Some h) = kept

owner_kept_by : (m : Bindings) (client : ℕ) (h : Holding) (change : Holding → Bindings × Reply) → AreKept m → AreKept (change h).0 → (own : Bool) → (h.owner == client) ≡ own → AreKept (by_owner m client (Some h) change).0
owner_kept_by m client h change kept changed true is = rw is changed
owner_kept_by m client h change kept changed false is = rw is kept

owner_kept : (m : Bindings) (client : ℕ) (name : List ℕ) (change : Holding → Bindings × Reply) → AreKept m → ((h : Holding) → holding_of m name ≡ Some h → AreKept (change h).0) → (o : Option Holding) → holding_of m name ≡ o → AreKept (by_owner m client o change).0
owner_kept m client name change kept changed None is = kept
owner_kept m client name change kept changed (Some h) is = owner_kept_by m client h change kept (changed h is) (h.owner == client) refl

op_kept : (m : Bindings) (client : ℕ) (op : Op) → AreKept m → AreKept (apply_op m client op).0
op_kept m client (Claim name value) kept = claim_kept m client name value kept (holding_of m name)
op_kept m client (Update name value) kept =
    owner_kept m client name _ kept (λ h there. bound_kept m name client value h kept there) (holding_of m name) refl
op_kept m client (Release name) kept =
    owner_kept m client name _ kept (λ h there. let less = kept_removed name m kept.0 in (less.0, omega (arith, less.1, kept.1))) (holding_of m name) refl
op_kept m client (Transfer name owner) kept =
    owner_kept m client name _ kept (λ h there. bound_kept m name owner h.value h kept there) (holding_of m name) refl

all_kept : (cs : List Command) (m : Bindings) → AreKept m → AreKept (fold (λ m c. (apply m c).0) m cs)
all_kept [] m kept = kept
all_kept (c ∷ cs) m kept = all_kept cs (apply m c).0 (op_kept m c.request.client c.op kept)

-- the names of a registry do
pub registry_kept : (cs : List Command) → AreKept (registry_of cs)
registry_kept cs = all_kept (firsts cs) [] (tt, omega arith)

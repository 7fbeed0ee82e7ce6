-- The decisions of a list that is written a part after another.
use Rattle.std.proofs.Common.{◌≡◌, ℕ, suc, ◌+◌, ◌≤◌, Bool, true, List, [], ◌∷◌, ◌++◌, length, if◌then◌else◌, None, Some, refl, ap, ap₂, sym, ◌∙◌, subst, arith, append-nil, append_assoc}
use Rattle.std.proofs.lemmas.Bool.{ne_eqb, and_from}
use Rattle.rr_types.specs.declared.command.Command.{Command}
use Rattle.rr_types.specs.declared.fact.Fact.{Fact}
use Rattle.rr_types.specs.declared.fact.Fact.TheVariants.{Decide}
use Rattle.rr_types.specs.declared.promise.Entry.{Entry}
use Rattle.rr_types.specs.declared.promise.Standing.TheVariants.{Decided}
use Rattle.rr_types.specs.Promises.{standing_in, take_on, all_fit}
use Rattle.rr_types.specs.Standings.{is_undecided}
use Rattle.rr_disk.specs.Areas.{Areas}
use Rattle.rr_journal.specs.declared.journal.Journal.{Journal}
use Rattle.rr_model.specs.LostDisks.{decisions_from, decisions_of}
use Rattle.rr_model.proofs.Promised.{standing_in-take_on}
use Rattle.rr_folders.specs.Renewal.{GoesBehind, HoldsNow}

-- the decisions of a list fit behind entries that say nothing from there on
decisions_fit : (n p i : ℕ) (list : List Command) (es : List Entry) → ((j : ℕ) → i ≤ j → standing_in es j ≡ None) → all_fit n p es (decisions_from i list) ≡ true
decisions_fit n p i [] es none = refl
decisions_fit n p i (v ∷ list) es none = and_from _ _ (ap is_undecided (none i (omega arith)))
    (decisions_fit n p (i + 1) list (take_on es (Decide i v)) (λ j l. standing_in-take_on es (Decide i v) j ∙ ap (λ (b : Bool). if b then Some (Decided v) else standing_in es j) (ne_eqb i j (λ e. omega arith)) ∙ none j (omega arith)))

decisions_append : (i : ℕ) (xs ys : List Command) → decisions_from i (xs ++ ys) ≡ decisions_from i xs ++ decisions_from (i + length xs) ys
decisions_append i [] ys = ap (λ k. decisions_from k ys) (let z : i ≡ i + 0 = omega arith in z)
decisions_append i (v ∷ xs) ys =
    ap (λ z. Decide i v ∷ z) (decisions_append (i + 1) xs ys
    ∙ ap (λ k. decisions_from (i + 1) xs ++ decisions_from k ys) (let z : (i + 1) + length xs ≡ i + length (v ∷ xs) = omega arith in z))

pub decisions_long : (i : ℕ) (xs : List Command) → length (decisions_from i xs) ≡ length xs
decisions_long i [] = refl
decisions_long i (v ∷ xs) = ap (λ (k : ℕ). suc k) (decisions_long (i + 1) xs)

long_append : (xs ys : List Command) → length (xs ++ ys) ≡ length xs + length ys
long_append [] ys = omega arith
long_append (v ∷ xs) ys = let h = long_append xs ys in omega (arith, h)

-- a list is written up to somewhere, and nothing else; the rest of it is left
abbrev pub IsWritten : {D : Type 0} → (D → Areas) → List Command → List Command → Journal D → Type 0
IsWritten areas whole rest journal =
    (done : List Command) × (done ++ rest ≡ whole) × HoldsNow areas journal (decisions_of done) × (journal.next ≡ length done)

pub none_written : {D : Type 0} (areas : D → Areas) (whole : List Command) (journal : Journal D) → HoldsNow areas journal [] → journal.next ≡ 0
    → IsWritten areas whole whole journal
none_written areas whole journal held none = ([], refl, held, none)

pub all_written : {D : Type 0} (areas : D → Areas) (whole rest : List Command) (journal : Journal D) → length rest ≡ 0 → IsWritten areas whole rest journal
    → HoldsNow areas journal (decisions_of whole)
all_written areas whole [] journal none written =
    subst (λ (z : List Command). HoldsNow areas journal (decisions_of z)) (sym (append-nil written.0) ∙ written.1) written.2
all_written areas whole (v ∷ rest) journal none written = absurd (omega (arith, none))

-- a part more
pub more_written : {D : Type 0} (areas : D → Areas) (whole now more rest : List Command) (old new : Journal D) → now ++ more ≡ rest
    → GoesBehind old new (length now)
    → ((facts : List Fact) → HoldsNow areas old facts → length facts ≡ old.next → all_fit old.nodes old.node [] (facts ++ decisions_from old.next now) ≡ true
    → HoldsNow areas new (facts ++ decisions_from old.next now))
    → IsWritten areas whole rest old → IsWritten areas whole more new
more_written areas whole now more rest old new parted behind held written =
    let done : List Command = written.0 in
    let next : old.next ≡ length done = written.3 in
    let facts_are : decisions_of done ++ decisions_from old.next now ≡ decisions_of (done ++ now) =
    ap (λ k. decisions_from 0 done ++ decisions_from k now) (next ∙ (let z : length done ≡ 0 + length done = omega arith in z)) ∙ sym (decisions_append 0 done now) in
    let fit : all_fit old.nodes old.node [] (decisions_of done ++ decisions_from old.next now) ≡ true =
    ap (λ z. all_fit old.nodes old.node [] z) facts_are ∙ decisions_fit old.nodes old.node 0 (done ++ now) [] (λ j l. refl) in
    let long : length (done ++ now) ≡ length done + length now = long_append done now in
    let further : new.next ≡ old.next + length now = behind.next in (
      done ++ now,
      append_assoc done now more ∙ ap (λ z. done ++ z) parted ∙ written.1,
      subst (λ z. HoldsNow areas new z) facts_are (held (decisions_of done) written.2 (decisions_long 0 done ∙ sym next) fit),
      omega (arith, long, further, next),
    )

-- The calls of a reservation, one behind the other: all of them, or those up to the one that failed.
use Rattle.std.proofs.Common.{◌≡◌, ℕ, Bool, true, false, List, [], ◌∷◌, Result, Ok, Err, is_ok}
use Rattle.std.specs.Prelude.{IsOk, IsErr}
use Rattle.rr_folders.specs.NumberCalls.{NumberCall, writes, syncs, renames, syncs_folder, replaced, IsCutShort, unwritten, unsynced, unrenamed, unkept, IsAsked, none, then}

module _ {F : Type 0} (gives : F → NumberCall → F → Type 0) where
  -- one call alone
  pub lone : (call : NumberCall) (old new : F) → gives old call new → IsAsked gives (call ∷ []) old new
  lone call old new g = then call [] old new new g (none new)

  -- a call before others
  pub before : (call : NumberCall) (calls : List NumberCall) (old mid new : F) → gives old call mid → IsAsked gives calls mid new → IsAsked gives (call ∷ calls) old new
  before call calls old mid new g rest = then call calls old mid new g rest

  pub cut_at_write : (text : List ℕ) (old new : F) → gives old (writes text false) new
      → (calls : List NumberCall) × IsCutShort text calls × IsAsked gives calls old new
  cut_at_write text old new g = (writes text false ∷ [], unwritten, lone (writes text false) old new g)

  pub cut_at_sync : (text : List ℕ) (old a new : F) → gives old (writes text true) a → gives a (syncs false) new
      → (calls : List NumberCall) × IsCutShort text calls × IsAsked gives calls old new
  cut_at_sync text old a new g h =
      (writes text true ∷ syncs false ∷ [], unsynced, before (writes text true) (syncs false ∷ []) old a new g (lone (syncs false) a new h))

  pub cut_at_rename : (text : List ℕ) (old a b new : F) → gives old (writes text true) a → gives a (syncs true) b → gives b (renames false) new
      → (calls : List NumberCall) × IsCutShort text calls × IsAsked gives calls old new
  cut_at_rename text old a b new g h i = (
    writes text true ∷ syncs true ∷ renames false ∷ [],
    unrenamed,
    before (writes text true) (syncs true ∷ renames false ∷ []) old a new g
        (before (syncs true) (renames false ∷ []) a b new h (lone (renames false) b new i)),
  )

  -- the calls before the last one
  all_but_last : (text : List ℕ) (ok : Bool) (old a b c new : F) → gives old (writes text true) a → gives a (syncs true) b → gives b (renames true) c
      → gives c (syncs_folder ok) new → IsAsked gives (writes text true ∷ syncs true ∷ renames true ∷ syncs_folder ok ∷ []) old new
  all_but_last text ok old a b c new g h i j =
      before (writes text true) (syncs true ∷ renames true ∷ syncs_folder ok ∷ []) old a new g
      (before (syncs true) (renames true ∷ syncs_folder ok ∷ []) a b new h
      (before (renames true) (syncs_folder ok ∷ []) b c new i (lone (syncs_folder ok) c new j)))

  pub ends_well : {E : Type 0} (text : List ℕ) (r : Result (Unit {0}) E) (old a b c new : F) → gives old (writes text true) a → gives a (syncs true) b
      → gives b (renames true) c → gives c (syncs_folder (is_ok r)) new → IsOk r → IsAsked gives (replaced text) old new
  ends_well text (Ok u) old a b c new g h i j ok = all_but_last text true old a b c new g h i j
  ends_well text (Err e) old a b c new g h i j ok = absurd (let no : false ≡ true = ok in cc)

  pub cut_at_folder : {E : Type 0} (text : List ℕ) (r : Result (Unit {0}) E) (old a b c new : F) → gives old (writes text true) a → gives a (syncs true) b
      → gives b (renames true) c → gives c (syncs_folder (is_ok r)) new → IsErr r
      → (calls : List NumberCall) × IsCutShort text calls × IsAsked gives calls old new
  cut_at_folder text (Ok u) old a b c new g h i j bad = absurd (let no : false ≡ true = bad in cc)
  cut_at_folder text (Err e) old a b c new g h i j bad =
      (writes text true ∷ syncs true ∷ renames true ∷ syncs_folder false ∷ [], unkept, all_but_last text false old a b c new g h i j)

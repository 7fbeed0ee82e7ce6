-- What a reservation comes to, by what its read found and what its other calls gave.
use Rattle.std.proofs.Common.{◌≡◌, ◌∙◌, ℕ, ◌+◌, max, true, List, Option, None, Some, ap, sym, subst}
use Rattle.rr_types.specs.declared.refusal.Refusal.{Refusal}
use Rattle.rr_types.specs.declared.refusal.Refusal.TheVariants.{OutOfMemory, Malformed, Device}
use Rattle.rr_folders.specs.Requests.{Reserved}
use Rattle.rr_folders.specs.NumberCalls.{NumberCall, reads, free_by, number_text, replaced, IsCutShort, IsAsked, Reserves, reserves, unreadable, failed, no_memory, ReservesNone}
use Rattle.rr_folders.proofs.NumberLaws.{lone, before}

-- a block that begins and ends there
block_of : (block : Reserved) (n : ℕ) → block.next ≡ n → block.end ≡ n + 1048576 → block ≡ record { next = n; end = n + 1048576 }
block_of block n p q =
    ap (λ (i : ℕ). let b : Reserved = record { next = i; end = block.end } in b) p ∙ ap (λ (i : ℕ). let b : Reserved = record { next = n; end = i } in b) q

module _ {F : Type 0} (gives : F → NumberCall → F → Type 0) where
  pub is_unreadable : (least : ℕ) (found : Option (List ℕ)) (old new : F) → gives old (reads found true) new → free_by found ≡ None
      → ReservesNone gives least old new (Malformed 0)
  is_unreadable least None old new g e = absurd (let no : Some 0 ≡ None = e in cc)
  is_unreadable least (Some bytes) old new g e = unreadable bytes e (lone gives (reads (Some bytes) true) old new g)

  pub is_reserved : (least : ℕ) (found : Option (List ℕ)) (first : ℕ) (block : Reserved) (text : List ℕ) (old mid new : F)
      → gives old (reads found true) mid → free_by found ≡ Some first → block.next ≡ max first least → block.end ≡ max first least + 1048576
      → text ≡ number_text block.end → IsAsked gives (replaced text) mid new → Reserves gives least block old new
  is_reserved least found first block text old mid new g free p q t rest =
      reserves found first free (block_of block (max first least) p q)
      (before gives (reads found true) (replaced (number_text block.end)) old mid new g (subst (λ (t : List ℕ). IsAsked gives (replaced t) mid new) t rest))

  pub has_failed : (least : ℕ) (found : Option (List ℕ)) (first end : ℕ) (text : List ℕ) (old mid new : F)
      → gives old (reads found true) mid → free_by found ≡ Some first → end ≡ max first least + 1048576 → text ≡ number_text end
      → (calls : List NumberCall) × IsCutShort text calls × IsAsked gives calls mid new → ReservesNone gives least old new Device
  has_failed least found first end text old mid new g free q t short =
      failed found first short.0 free (subst (λ (n : ℕ). IsCutShort (number_text n) short.0) q (subst (λ (t : List ℕ). IsCutShort t short.0) t short.1))
      (before gives (reads found true) short.0 old mid new g short.2)

  pub lacks_memory : (least : ℕ) (found : Option (List ℕ)) (old new : F) → gives old (reads found true) new → (e : Refusal) → e ≡ OutOfMemory
      → ReservesNone gives least old new e
  lacks_memory least found old new g e is = subst (λ (e : Refusal). ReservesNone gives least old new e) (sym is) (no_memory found true (lone gives (reads found true) old new g))

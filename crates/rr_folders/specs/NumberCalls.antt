-- What a reservation of request numbers asks of the file that holds the first number that is not reserved.
use Rattle.std.specs.Prelude.{◌≡◌, ℕ, ◌+◌, ◌^◌, ◌≤◌, max, nat_le, Bool, true, false, List, [], ◌∷◌, ◌++◌, Option, None, Some, Result, Ok, Err, Vec, decimal}
use Rattle.std.specs.declared.alloc.Global.{Global}
use Rattle.rr_types.specs.declared.refusal.Refusal.{Refusal}
use Rattle.rr_types.specs.declared.refusal.Refusal.TheVariants.{OutOfMemory, Malformed, TooLarge, Device}
use Rattle.rr_folders.specs.Requests.{Reserved, stored_number}

-- a call, with its bytes and whether it succeeded: the bytes that a read found, none where there is no file; and those that were written
pub data NumberCall : Type 0 where
  reads : (found : Option (List ℕ)) (ok : Bool) → NumberCall
  writes : (text : List ℕ) (ok : Bool) → NumberCall
  syncs : (ok : Bool) → NumberCall
  renames : (ok : Bool) → NumberCall
  syncs_folder : (ok : Bool) → NumberCall

-- the bytes that a read found
abbrev pub bytes_of : Option (Vec ℕ Global) → Option (List ℕ)
bytes_of None = None
bytes_of (Some v) = Some v.items

abbrev pub found_by : {E : Type 0} → Result (Option (Vec ℕ Global)) E → Option (List ℕ)
found_by (Ok found) = bytes_of found
found_by (Err e) = None

-- the first number that is not reserved, by what was found: 0 where there is no file
abbrev pub free_by : Option (List ℕ) → Option ℕ
free_by None = Some 0
free_by (Some bytes) = stored_number bytes

-- whether no block can be had, by the first number that is not reserved
abbrev pub has_no_block : Option ℕ → Bool
has_no_block None = true
has_no_block (Some first) = nat_le (2 ^ 64) (first + 1048576)

-- what the file holds when the numbers below this one are reserved
abbrev pub number_text : ℕ → List ℕ
number_text end = decimal end ++ 10 ∷ []

-- the calls that put a text in the file's place, so that it lasts and no crash leaves part of it
abbrev pub replaced : List ℕ → List NumberCall
replaced text = writes text true ∷ syncs true ∷ renames true ∷ syncs_folder true ∷ []

-- those of them that were made where one failed, the last
pub data IsCutShort (text : List ℕ) : List NumberCall → Type 0 where
  unwritten : IsCutShort text (writes text false ∷ [])
  unsynced : IsCutShort text (writes text true ∷ syncs false ∷ [])
  unrenamed : IsCutShort text (writes text true ∷ syncs true ∷ renames false ∷ [])
  unkept : IsCutShort text (writes text true ∷ syncs true ∷ renames true ∷ syncs_folder false ∷ [])

module _ {F : Type 0} (gives : F → NumberCall → F → Type 0) where
  -- these calls, one behind the other and no others, brought the file from one state to another
  pub data IsAsked : List NumberCall → F → F → Type 0 where
    none : (file : F) → IsAsked [] file file
    then : (call : NumberCall) (calls : List NumberCall) (old mid new : F) → gives old call mid → IsAsked calls mid new → IsAsked (call ∷ calls) old new

  -- the file was read, and nothing else was asked of it: no block can be had, or one can
  abbrev pub Sees : Bool → F → F → Type 0
  Sees lacks old new = (found : Option (List ℕ)) × gives old (reads found true) new × (has_no_block (free_by found) ≡ lacks)

  -- a block is reserved: it begins at the first number that is free, or at a greater one that was asked for, and the file says so before it is given
  pub data Reserves (least : ℕ) (block : Reserved) (old new : F) : Type 0 where
    reserves : (found : Option (List ℕ)) (first : ℕ) → free_by found ≡ Some first
        → block ≡ record { next = max first least; end = max first least + 1048576 }
        → IsAsked (reads found true ∷ replaced (number_text block.end)) old new
        → Reserves least block old new

  -- none is reserved: the file's text is no number; numbers are out; a call failed, the last that was made; or no memory is there, before anything was written
  pub data ReservesNone (least : ℕ) (old new : F) : Refusal → Type 0 where
    unreadable : (bytes : List ℕ) → stored_number bytes ≡ None → IsAsked (reads (Some bytes) true ∷ []) old new → ReservesNone least old new (Malformed 0)
    out : (found : Option (List ℕ)) (first : ℕ) → free_by found ≡ Some first → 2 ^ 64 ≤ max first least + 1048576
        → IsAsked (reads found true ∷ []) old new → ReservesNone least old new TooLarge
    unread : IsAsked (reads None false ∷ []) old new → ReservesNone least old new Device
    failed : (found : Option (List ℕ)) (first : ℕ) (calls : List NumberCall) → free_by found ≡ Some first
        → IsCutShort (number_text (max first least + 1048576)) calls
        → IsAsked (reads found true ∷ calls) old new → ReservesNone least old new Device
    no_memory : (found : Option (List ℕ)) (ok : Bool) → IsAsked (reads found ok ∷ []) old new → ReservesNone least old new OutOfMemory

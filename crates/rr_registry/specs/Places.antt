-- Places by their keys, each with a value or free, and the entries that they make.
use Rattle.std.specs.Prelude.{ℕ, Bool, List, [], ◌∷◌, Option, None, Some, is_some}
use Rattle.std.specs.declared.cmp.Ordering.{Ordering}
use Rattle.std.specs.BTreeMap.{insert_entry, is_at}
use Rattle.std.specs.Map.{lookup, remove_entry}

module _ {K V : Type 0} where
  -- a place with a value, before other entries; a free place is no entry
  abbrev pub filled_cons : K → Option V → List (K × V) → List (K × V)
  filled_cons k None es = es
  filled_cons k (Some v) es = (k, v) ∷ es

  -- the entries of the places that have a value
  abbrev pub filled : List (K × Option V) → List (K × V)
  filled [] = []
  filled (e ∷ es) = filled_cons e.0 e.1 (filled es)

  -- whether a key has a place, free or not
  abbrev pub has_place : (K → K → Ordering) → List (K × Option V) → K → Bool
  has_place cmp es k = is_some (lookup (is_at (cmp k)) es)

  -- the entries with this value at a key, or without the key
  abbrev pub put_entry : (K → K → Ordering) → List (K × V) → K → Option V → List (K × V)
  put_entry cmp es k None = remove_entry (is_at (cmp k)) es
  put_entry cmp es k (Some v) = insert_entry cmp es k v

-- 1 where there is a value, else 0
abbrev pub held : {V : Type 0} → Option V → ℕ
held None = 0
held (Some v) = 1

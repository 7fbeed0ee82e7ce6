-- The order in which requests arrived: each has a number of its own, by which it is found.
use Rattle.std.specs.Prelude.{◌≡◌, ℕ, ◌+◌, ◌≤◌, Bool, if◌then◌else◌, List, [], ◌∷◌, Option, None, Some}
use Rattle.std.specs.BTreeMap.{is_at}
use Rattle.std.specs.Map.{lookup}
use Rattle.rr_types.specs.declared.command.RequestNo.{RequestNo}
use Rattle.rr_types.specs.Registry.{is_same_request}
use Rattle.rr_registry.specs.Kept.{request_cmp}

-- the list without the first element that passes
abbrev pub without_first : {A : Type 0} → (A → Bool) → List A → List A
without_first p [] = []
without_first p (x ∷ xs) = if p x then xs else x ∷ without_first p xs

-- the second parts, in order
abbrev pub seconds : {K V : Type 0} → List (K × V) → List V
seconds [] = []
seconds (e ∷ es) = e.1 ∷ seconds es

-- the numbers ascend from low on and lie below next
abbrev pub AreNumbered : {V : Type 0} → ℕ → List (ℕ × V) → ℕ → Type 0
AreNumbered low [] next = low ≤ next
AreNumbered low (e ∷ es) next = (low ≤ e.0) × AreNumbered (e.0 + 1) es next

module _ {V : Type 0} (request_of : V → RequestNo) where
  -- the number under which a request arrived
  abbrev pub arrival_of : List (ℕ × V) → RequestNo → Option ℕ
  arrival_of [] q = None
  arrival_of (e ∷ es) q = if is_same_request (request_of e.1) q then Some e.0 else arrival_of es q

  -- no request comes again
  abbrev pub AreOnce : List (ℕ × V) → Type 0
  AreOnce [] = Unit {0}
  AreOnce (e ∷ es) = (arrival_of es (request_of e.1) ≡ None) × AreOnce es

  -- each request has a number of its own, by which it is found
  pub record IsIndexed (order : List (ℕ × V)) (arrivals : List (RequestNo × ℕ)) (next : ℕ) : Type 0 where
    pub numbered : AreNumbered 0 order next
    pub once : AreOnce order
    pub found : (q : RequestNo) → lookup (is_at (request_cmp q)) arrivals ≡ arrival_of order q

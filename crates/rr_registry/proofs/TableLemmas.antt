-- Names and requests compare as equal exactly where they are, and a command keeps its places where the tables do.
use Rattle.std.proofs.Common.{◌≡◌, ℕ, Bool, true, false, cond, List, [], ◌∷◌, Some, Ordering, refl, ap, ◌∙◌, arith, IsTrue, ◌==◌, ◌&&◌}
use Rattle.std.specs.declared.cmp.Ordering.TheVariants.{Less, Equal, Greater}
use Rattle.std.specs.Ordering.{is_eq, nat_cmp, ordering_then}
use Rattle.std.specs.Cmp.Lexicographic.{slice_cmp}
use Rattle.std.specs.Str.{bytes_eq}
use Rattle.std.specs.BTreeMap.{is_at}
use Rattle.std.specs.Map.{lookup, remove_entry}
use Rattle.std.proofs.lemmas.Map.Text.{is_eq-slice_cmp}
use Rattle.std.proofs.lemmas.Map.Lookups.{CmpEqualImpliesEq, exact_pairs, exact_unsigned}
use Rattle.std.proofs.lemmas.Bool.Decides.{nat_tests}
use Rattle.rr_types.specs.declared.command.RequestNo.{RequestNo}
use Rattle.rr_types.specs.Registry.{is_same_request}
use Rattle.rr_types.specs.declared.command.Op.{Op}
use Rattle.rr_types.specs.declared.command.Op.TheVariants.{Claim, Update, Release, Transfer}
use Rattle.rr_types.specs.declared.command.Command.{Command}
use Rattle.rr_registry.specs.declared.names.Names.{Names}
use Rattle.rr_registry.specs.declared.tables.Tables.{Tables}
use Rattle.rr_registry.specs.Tables.{has_name_place, has_reply_place, has_op_place, has_places}
use Rattle.rr_registry.specs.Kept.{request_cmp}

module _ {K X : Type 0} where
  lookup_first : (t u : K → Bool) → ((k : K) → t k ≡ u k) → (e : K × X) (es : List (K × X)) → lookup t es ≡ lookup u es → lookup t (e ∷ es) ≡ lookup u (e ∷ es)
  lookup_first t u h e es more = rw (h e.0) (ap (cond (u e.0) (Some e.1)) more)

  -- tests that agree find the same
  lookup_alike : (t u : K → Bool) → ((k : K) → t k ≡ u k) → (es : List (K × X)) → lookup t es ≡ lookup u es
  lookup_alike t u h [] = refl
  lookup_alike t u h (e ∷ es) = lookup_first t u h e es (lookup_alike t u h es)

  remove_first : (t u : K → Bool) → ((k : K) → t k ≡ u k) → (e : K × X) (es : List (K × X)) → remove_entry t es ≡ remove_entry u es → remove_entry t (e ∷ es) ≡ remove_entry u (e ∷ es)
  remove_first t u h e es more = rw (h e.0) (ap (λ xs. cond (u e.0) es (e ∷ xs)) more)

  -- and remove the same
  remove_alike : (t u : K → Bool) → ((k : K) → t k ≡ u k) → (es : List (K × X)) → remove_entry t es ≡ remove_entry u es
  remove_alike t u h [] = refl
  remove_alike t u h (e ∷ es) = remove_first t u h e es (remove_alike t u h es)

-- names by their bytes
pub lookup-name : {X : Type 0} (name : List ℕ) (es : List (List ℕ × X)) → lookup (is_at (slice_cmp nat_cmp name)) es ≡ lookup (bytes_eq name) es
lookup-name name es = lookup_alike (is_at (slice_cmp nat_cmp name)) (bytes_eq name) (is_eq-slice_cmp name) es

pub remove-name : {X : Type 0} (name : List ℕ) (es : List (List ℕ × X)) → remove_entry (is_at (slice_cmp nat_cmp name)) es ≡ remove_entry (bytes_eq name) es
remove-name name es = remove_alike (is_at (slice_cmp nat_cmp name)) (bytes_eq name) (is_eq-slice_cmp name) es

eq_nat_cmp : (x y : ℕ) → is_eq (nat_cmp x y) ≡ (x == y)
eq_nat_cmp x y = grind (arith, nat_tests)

eq_then : (o p : Ordering) → is_eq (ordering_then o p) ≡ (is_eq o && is_eq p)
eq_then Less p = refl
eq_then Equal p = refl
eq_then Greater p = refl

-- requests compare alike where they are one
pub eq-request_cmp : (p q : RequestNo) → is_eq (request_cmp p q) ≡ is_same_request p q
eq-request_cmp p q = eq_then (nat_cmp p.client q.client) (nat_cmp p.seq q.seq) ∙ rw (eq_nat_cmp p.client q.client, eq_nat_cmp p.seq q.seq)

pub lookup-request : {X : Type 0} (q : RequestNo) (es : List (RequestNo × X)) → lookup (is_at (request_cmp q)) es ≡ lookup (is_same_request q) es
lookup-request q es = lookup_alike (is_at (request_cmp q)) (is_same_request q) (eq-request_cmp q) es

pub exact_requests : CmpEqualImpliesEq request_cmp
exact_requests a b h = ap (λ (p : ℕ × ℕ). record { client = p.0; seq = p.1 }) (exact_pairs nat_cmp nat_cmp exact_unsigned exact_unsigned (a.client, a.seq) (b.client, b.seq) h)

both : (a b x y : Bool) → (IsTrue a → IsTrue x) → (IsTrue b → IsTrue y) → IsTrue (a && b) → IsTrue (x && y)
both true true x y f g h = rw (f refl, g refl)
both true false x y f g h = cc
both false b x y f g h = cc

name_places_stay : (t u : Names) → ((n : List ℕ) → IsTrue (has_name_place t n) → IsTrue (has_name_place u n)) → (op : Op) → IsTrue (has_op_place t op) → IsTrue (has_op_place u op)
name_places_stay t u names (Claim name value) h = names name h
name_places_stay t u names (Update name value) h = refl
name_places_stay t u names (Release name) h = refl
name_places_stay t u names (Transfer name owner) h = refl

-- a command keeps its places where requests and names do
pub places_stay : (t u : Tables) → ((q : RequestNo) → IsTrue (has_reply_place t q) → IsTrue (has_reply_place u q)) → ((n : List ℕ) → IsTrue (has_name_place t.names n) → IsTrue (has_name_place u.names n)) → (c : Command) → IsTrue (has_places t c) → IsTrue (has_places u c)
places_stay t u replies names c h = both (has_reply_place t c.request) (has_op_place t.names c.op) (has_reply_place u c.request) (has_op_place u.names c.op) (replies c.request) (name_places_stay t.names u.names names c.op) h

pub places_from : (t : Tables) (c : Command) → IsTrue (has_reply_place t c.request) → IsTrue (has_op_place t.names c.op) → IsTrue (has_places t c)
places_from t c h k = rw (h, k)

op_places_alike : (t u : Names) → ((n : List ℕ) → has_name_place u n ≡ has_name_place t n) → (op : Op) → has_op_place u op ≡ has_op_place t op
op_places_alike t u names (Claim name value) = names name
op_places_alike t u names (Update name value) = refl
op_places_alike t u names (Release name) = refl
op_places_alike t u names (Transfer name owner) = refl

-- a command has its places where requests and names have the same
pub places_alike : (t u : Tables) → ((q : RequestNo) → has_reply_place u q ≡ has_reply_place t q) → ((n : List ℕ) → has_name_place u.names n ≡ has_name_place t.names n) → (c : Command) → has_places u c ≡ has_places t c
places_alike t u replies names c = ap (λ b. b && has_op_place u.names c.op) (replies c.request) ∙ ap (λ b. has_reply_place t c.request && b) (op_places_alike t.names u.names names c.op)

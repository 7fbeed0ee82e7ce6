-- Claims of the names of a registry give the same registry.
use Rattle.std.proofs.Common.{◌≡◌, ℕ, ◌+◌, ◌<◌, ◌≤◌, Bool, true, false, ◌==◌, nat_lt, List, [], ◌∷◌, ◌++◌, length, map, None, refl, sym, ap, ◌∙◌, arith, subst, eqb-true, append_assoc, append-nil, get_or, take, drop}
use Rattle.std.specs.declared.cmp.Ordering.TheVariants.{Less, Greater}
use Rattle.std.specs.Ordering.{is_eq}
use Rattle.std.specs.Str.{bytes_eq}
use Rattle.std.specs.List.{AllByRecursion, fold}
use Rattle.std.specs.BTreeMap.{insert_entry}
use Rattle.std.proofs.lemmas.Bool.{lt-ltb, ne_eqb, eq-eqb}
use Rattle.std.proofs.lemmas.List.{drop_more, take_more}
use Rattle.std.proofs.lemmas.Map.Text.{is_eq-slice_cmp}
use Rattle.rr_types.specs.declared.command.Command.{Command}
use Rattle.rr_types.specs.Limits.{max_bound}
use Rattle.rr_types.specs.Registry.{Holding, Bindings, holding_of, apply, is_same_request, has_request, firsts_beside, registry_of}
use Rattle.rr_text.specs.declared.script_line.ScriptLine.{ScriptLine}
use Rattle.rr_text.specs.declared.script_line.ScriptLine.TheVariants.{Submit}
use Rattle.rr_text.specs.Scripted.{IsScriptLine}
use Rattle.rr_text.specs.Words.{IsCommand}
use Rattle.rr_folders.specs.Exports.{owned, claim_of, claims_behind, export_of, commands_of}
use Rattle.rr_folders.proofs.BoundLemmas.{order, AreAbove, Ascend, AreKept, reversed, registry_kept}

-- ---- each request is new

owned_by : (client : ℕ) (b a : List ℕ × Holding) (m : Bindings) → owned client (m ++ b ∷ []) ≡ owned client m + owned client (b ∷ []) → (t : Bool) → (a.1.owner == client) ≡ t → owned client ((a ∷ m) ++ b ∷ []) ≡ owned client (a ∷ m) + owned client (b ∷ [])
owned_by client b a m more true is = rw is (omega (arith, more))
owned_by client b a m more false is = rw is more

owned_more : (client : ℕ) (b : List ℕ × Holding) (m : Bindings) → owned client (m ++ b ∷ []) ≡ owned client m + owned client (b ∷ [])
owned_more client b [] = omega arith
owned_more client b (a ∷ m) = owned_by client b a m (owned_more client b m) (a.1.owner == client) refl

-- each request has a number that its client has used up
abbrev AreUsed : Bindings → List Command → Type 0
AreUsed m cs = AllByRecursion (λ c. c.request.seq ≤ owned c.request.client m) cs

still_used : (b : List ℕ × Holding) (m : Bindings) (cs : List Command) → AreUsed m cs → AreUsed (m ++ b ∷ []) cs
still_used b m [] used = tt
still_used b m (c ∷ cs) used = (let more = owned_more c.request.client b m in omega (arith, more, used.0), still_used b m cs used.1)

new_by : (m : Bindings) (c : Command) (client : ℕ) → c.request.seq ≤ owned c.request.client m → (t : Bool) → (c.request.client == client) ≡ t → is_same_request c.request (record { client = client; seq = owned client m + 1 }) ≡ false
new_by m c client used true is =
    let same : c.request.client ≡ client = eqb-true c.request.client client is in
    let most : c.request.seq ≤ owned client m = subst (λ (n : ℕ). c.request.seq ≤ owned n m) same used in
    rw is (ne_eqb c.request.seq (owned client m + 1) (λ e. omega (arith, e, most)))
new_by m c client used false is = rw is refl

is_new : (m : Bindings) (client : ℕ) (cs : List Command) → AreUsed m cs → has_request cs (record { client = client; seq = owned client m + 1 }) ≡ false
is_new m client [] used = refl
is_new m client (c ∷ cs) used = rw (new_by m c client used.0 (c.request.client == client) refl) (is_new m client cs used.1)

all_count : (seen : List Command) (before bs : Bindings) → AreUsed before seen → firsts_beside seen (claims_behind before bs) ≡ claims_behind before bs
all_count seen before [] used = refl
all_count seen before (b ∷ bs) used =
    let own : owned b.1.owner (b ∷ []) ≡ 1 = rw (eq-eqb b.1.owner b.1.owner refl) refl in
    let more : owned b.1.owner (before ++ b ∷ []) ≡ owned b.1.owner before + owned b.1.owner (b ∷ []) = owned_more b.1.owner b before in
    rw (is_new before b.1.owner seen used)
    (ap (λ cs. claim_of (owned b.1.owner before + 1) b ∷ cs)
    (all_count (claim_of (owned b.1.owner before + 1) b ∷ seen) (before ++ b ∷ []) bs (omega (arith, own, more), still_used b before seen used)))

-- ---- and binds its name behind the others

abbrev AreBelow : Bindings → List ℕ → Type 0
AreBelow m name = AllByRecursion (λ b. order name b.0 ≡ Greater) m

at_end : (name : List ℕ) (h : Holding) (m : Bindings) → AreBelow m name → insert_entry order m name h ≡ m ++ (name, h) ∷ []
at_end name h [] below = refl
at_end name h (b ∷ bs) below = rw below.0 (ap (λ m. b ∷ m) (at_end name h bs below.1))

none_below : (name : List ℕ) (m : Bindings) → AreBelow m name → holding_of m name ≡ None
none_below name [] below = refl
none_below name (b ∷ bs) below =
    let apart : bytes_eq name b.0 ≡ false = sym (is_eq-slice_cmp name b.0) ∙ ap is_eq below.0 in
    rw apart (none_below name bs below.1)

first_above : (name : List ℕ) (b : List ℕ × Holding) (before bs : Bindings) → AreAbove name (before ++ b ∷ bs) → order name b.0 ≡ Less
first_above name b [] bs above = above.0
first_above name b (a ∷ before) bs above = first_above name b before bs above.1

all_below : (b : List ℕ × Holding) (before bs : Bindings) → Ascend (before ++ b ∷ bs) → AreBelow before b.0
all_below b [] bs up = tt
all_below b (a ∷ before) bs up = (reversed a.0 b.0 Less (first_above a.0 b before bs up.0), all_below b before bs up.1)

length_before : (b : List ℕ × Holding) (before bs : Bindings) → length before < length (before ++ b ∷ bs)
length_before b [] bs = omega arith
length_before b (a ∷ before) bs = let more = length_before b before bs in omega (arith, more)

step : (seq : ℕ) (b : List ℕ × Holding) (before bs : Bindings) → AreKept (before ++ b ∷ bs) → (apply before (claim_of seq b)).0 ≡ before ++ b ∷ []
step seq b before bs kept =
    let below = all_below b before bs kept.0 in
    let lt = length_before b before bs in
    let room : nat_lt (length before) max_bound ≡ true = lt-ltb (length before) max_bound (omega (arith, lt, kept.1)) in
    rw (none_below b.0 before below, room) (at_end b.0 b.1 before below)

bound_so : (before bs : Bindings) → AreKept (before ++ bs) → fold (λ m c. (apply m c).0) before (claims_behind before bs) ≡ before ++ bs
bound_so before [] kept = sym (append-nil before)
bound_so before (b ∷ bs) kept =
    let regrouped : (before ++ b ∷ []) ++ bs ≡ before ++ b ∷ bs = append_assoc before (b ∷ []) bs in
    let next = bound_so (before ++ b ∷ []) bs (subst (λ (m : Bindings). AreKept m) (sym regrouped) kept) in
    ap (λ m. fold (λ m c. (apply m c).0) m (claims_behind (before ++ b ∷ []) bs)) (step (owned b.1.owner before + 1) b before bs kept)
    ∙ next ∙ regrouped

-- one claim more, and what is left
pub claims_next : (lines whole : List ScriptLine) (names : Bindings) (place : ℕ) (b : List ℕ × Holding) → place < length names → get_or names place b ≡ b
    → lines ++ map (λ c. Submit 0 c) (claims_behind (take place names) (drop place names)) ≡ whole
    → (lines ++ Submit 0 (claim_of (owned b.1.owner (take place names) + 1) b) ∷ []) ++ map (λ c. Submit 0 c) (claims_behind (take (place + 1) names) (drop (place + 1) names)) ≡ whole
claims_next lines whole names place b lt here so_far =
    let left : drop place names ≡ b ∷ drop (place + 1) names = drop_more names place b lt ∙ ap (λ x. x ∷ drop (place + 1) names) here in
    let behind : take (place + 1) names ≡ take place names ++ b ∷ [] = take_more names place b lt ∙ ap (λ x. take place names ++ x ∷ []) here in
    append_assoc lines (Submit 0 (claim_of (owned b.1.owner (take place names) + 1) b) ∷ []) (map (λ c. Submit 0 c) (claims_behind (take (place + 1) names) (drop (place + 1) names)))
    ∙ ap (λ before. lines ++ Submit 0 (claim_of (owned b.1.owner (take place names) + 1) b) ∷ map (λ c. Submit 0 c) (claims_behind before (drop (place + 1) names))) behind
    ∙ sym (ap (λ rest. lines ++ map (λ c. Submit 0 c) (claims_behind (take place names) rest)) left)
    ∙ so_far

submitted : (cs : List Command) → commands_of (map (λ c. Submit 0 c) cs) ≡ cs
submitted [] = refl
submitted (c ∷ cs) = ap (λ ds. c ∷ ds) (submitted cs)

-- the export of a registry gives the same registry
pub export_same : (decided : List Command) → registry_of (commands_of (export_of (registry_of decided))) ≡ registry_of decided
export_same decided =
    ap registry_of (submitted (claims_behind [] (registry_of decided)))
    ∙ ap (λ cs. fold (λ m c. (apply m c).0) [] cs) (all_count [] [] (registry_of decided) tt)
    ∙ bound_so [] (registry_of decided) (registry_kept decided)

-- one line more that a script may have
pub lawful_more : (lines : List ScriptLine) (c : Command) → IsCommand c → ((n : ℕ) → 1 ≤ n → AllByRecursion (IsScriptLine n) lines) → (n : ℕ) → 1 ≤ n → AllByRecursion (IsScriptLine n) (lines ++ Submit 0 c ∷ [])
lawful_more [] c lawful all n some = ((omega (arith, some), lawful), tt)
lawful_more (l ∷ lines) c lawful all n some = ((all n some).0, lawful_more lines c lawful (λ m more. (all m more).1) n some)

-- Which places of a registry's tables are free, as places are made, filled and dropped.
use Rattle.std.proofs.Common.{◌≡◌, ℕ, ◌+◌, ◌<◌, ◌≤◌, Bool, true, false, cond, if◌then◌else◌, ◌||◌, ◌==◌, nat_lt, List, [], ◌∷◌, length, drop, get_or, Option, None, Some, is_some, refl, ap, sym, ◌∙◌, subst}
use Rattle.std.specs.List.{list_any}
use Rattle.std.specs.Ordering.{nat_cmp}
use Rattle.std.specs.Cmp.Lexicographic.{slice_cmp}
use Rattle.std.specs.Str.{bytes_eq}
use Rattle.std.specs.BTreeMap.{insert_entry, is_at}
use Rattle.std.specs.Map.{lookup, remove_entry}
use Rattle.std.proofs.lemmas.Cmp.{nat_list_cmp_total}
use Rattle.std.proofs.lemmas.List.{drop_all, drop_more}
use Rattle.std.proofs.lemmas.List.Folds.{list_any_at}
use Rattle.std.proofs.lemmas.Map.Lookups.{exact_bytes}
use Rattle.std.proofs.lemmas.Slice.Eq.{bytes_eq-Decides}
use Rattle.rr_types.specs.declared.command.RequestNo.{RequestNo}
use Rattle.rr_types.specs.declared.command.Op.{Op}
use Rattle.rr_types.specs.declared.command.Op.TheVariants.{Claim, Update, Release, Transfer}
use Rattle.rr_types.specs.declared.command.Command.{Command}
use Rattle.rr_types.specs.declared.command.Reply.{Reply}
use Rattle.rr_types.specs.declared.command.Reply.TheVariants.{Claimed, Full}
use Rattle.rr_types.specs.Registry.{Holding, Bindings, holding_of, bind, claim, by_owner, apply_op, is_same_request}
use Rattle.rr_registry.specs.declared.tables.Tables.{Tables}
use Rattle.rr_registry.specs.Kept.{Kept, request_cmp, kept_reply}
use Rattle.rr_registry.specs.Tables.{bindings_in, kept_in, has_name_place, has_reply_place, may_free, HasFreeNamesOnlyFor, HasFreeRepliesOnlyFor, HasFreeOnlyFor}
use Rattle.rr_registry.specs.Places.{filled}
use Rattle.rr_registry.proofs.TableLemmas.{lookup-name}
use Rattle.rr_registry.proofs.KeptLemmas.{lookup-insert_entry, reply_kept, same_back, one_request}

pub first : (a b : Bool) → a ≡ true → (a || b) ≡ true
first a b h = rw h

pub alone : (a : Bool) → (a || false) ≡ true → a ≡ true
alone true h = refl
alone false h = h

second : (a b : Bool) → b ≡ true → (a || b) ≡ true
second true b h = refl
second false b h = h

-- one test more
behind : (a b d : Bool) → (a || d) ≡ true → (a || (b || d)) ≡ true
behind true b d h = refl
behind false b d h = second b d h

-- a test that another implies
within : (a b d : Bool) → (b ≡ true → d ≡ true) → (a || (b || d)) ≡ true → (a || d) ≡ true
within true b d f h = refl
within false true d f h = f refl
within false false d f h = h

-- the first two are enough
begun : (a b d : Bool) → (a || b) ≡ true → (a || (b || d)) ≡ true
begun true b d h = refl
begun false b d h = first b d h

held_by : {A : Type 0} (b : Bool) (x : A) (o : Option A) → is_some o ≡ true → is_some (cond b (Some x) o) ≡ true
held_by true x o h = refl
held_by false x o h = h

-- a bound name stays bound where one is bound
pub bind_stays : (m : Bindings) (k : List ℕ) (x : Holding) (n : List ℕ) → is_some (holding_of m n) ≡ true → is_some (holding_of (insert_entry (slice_cmp nat_cmp) m k x) n) ≡ true
bind_stays m k x n h =
    ap is_some (sym (lookup-name n (insert_entry (slice_cmp nat_cmp) m k x)) ∙ lookup-insert_entry (slice_cmp nat_cmp) nat_list_cmp_total exact_bytes k x m n)
    ∙ held_by (is_at (slice_cmp nat_cmp n) k) x (lookup (is_at (slice_cmp nat_cmp n)) m) (ap is_some (lookup-name n m) ∙ h)

remove_first : (k n : List ℕ) (e : List ℕ × Holding) (m : Bindings) → (is_some (holding_of m n) ≡ true → (is_some (holding_of (remove_entry (bytes_eq k) m) n) || bytes_eq k n) ≡ true) → is_some (holding_of (e ∷ m) n) ≡ true → (b : Bool) → bytes_eq k e.0 ≡ b → (d : Bool) → bytes_eq n e.0 ≡ d → (is_some (holding_of (remove_entry (bytes_eq k) (e ∷ m)) n) || bytes_eq k n) ≡ true
remove_first k n e m more h true p true q = second _ (bytes_eq k n) ((bytes_eq-Decides k n).1 ((bytes_eq-Decides k e.0).0 p ∙ sym ((bytes_eq-Decides n e.0).0 q)))
remove_first k n e m more h true p false q = rw p (first _ (bytes_eq k n) (rw q at h))
remove_first k n e m more h false p true q = rw (p, q)
remove_first k n e m more h false p false q = rw (p, q) (more (rw q at h))

-- and where one is freed, but for that one
pub remove_stays : (k n : List ℕ) (m : Bindings) → is_some (holding_of m n) ≡ true → (is_some (holding_of (remove_entry (bytes_eq k) m) n) || bytes_eq k n) ≡ true
remove_stays k n [] h = cc
remove_stays k n (e ∷ m) h = remove_first k n e m (remove_stays k n m) h (bytes_eq k e.0) refl (bytes_eq n e.0) refl

picked : (b : Bool) (s t : Bindings × Reply) (n : List ℕ) (more : Bool) → (is_some (holding_of s.0 n) || more) ≡ true → (is_some (holding_of t.0 n) || more) ≡ true → (is_some (holding_of (if b then s else t).0 n) || more) ≡ true
picked true s t n more h k = h
picked false s t n more h k = k

claimed : (m : Bindings) (client : ℕ) (name value : List ℕ) (o : Option Holding) (n : List ℕ) (more : Bool) → is_some (holding_of m n) ≡ true → (is_some (holding_of (claim m client name value o).0 n) || more) ≡ true
claimed m client name value None n more h =
    picked (nat_lt (length m) 4096) (bind m name client value, Claimed) (m, Full) n more (first _ more (bind_stays m name (record { owner = client; value = value }) n h)) (first _ more h)
claimed m client name value (Some x) n more h = first _ more h

changed : (m : Bindings) (client : ℕ) (o : Option Holding) (change : Holding → Bindings × Reply) (n : List ℕ) (more : Bool) → is_some (holding_of m n) ≡ true → ((x : Holding) → (is_some (holding_of (change x).0 n) || more) ≡ true) → (is_some (holding_of (by_owner m client o change).0 n) || more) ≡ true
changed m client None change n more h f = first _ more h
changed m client (Some x) change n more h f = picked (x.owner == client) (change x) (m, _) n more (f x) (first _ more h)

-- an operation frees no name but its own
op_stays : (m : Bindings) (client : ℕ) (op : Op) (n : List ℕ) → is_some (holding_of m n) ≡ true → (is_some (holding_of (apply_op m client op).0 n) || may_free op n) ≡ true
op_stays m client (Claim name value) n h = claimed m client name value (holding_of m name) n (bytes_eq name n) h
op_stays m client (Update name value) n h = changed m client (holding_of m name) _ n false h (λ x. first _ false (bind_stays m name (record { owner = client; value = value }) n h))
op_stays m client (Release name) n h = changed m client (holding_of m name) _ n (bytes_eq name n) h (λ x. remove_stays name n m h)
op_stays m client (Transfer name owner) n h = changed m client (holding_of m name) _ n false h (λ x. first _ false (bind_stays m name (record { owner = owner; value = x.value }) n h))

-- whether a name is bound, whether a request has a reply, and whether some command is about it
abbrev is_bound : Tables → List ℕ → Bool
is_bound t n = is_some (holding_of (bindings_in t.names) n)

abbrev has_reply : Tables → RequestNo → Bool
has_reply t q = is_some (kept_reply (kept_in t) q)

abbrev are_about : List ℕ → List Command → Bool
are_about n cs = list_any (λ (c : Command). may_free c.op n) cs

abbrev are_for : RequestNo → List Command → Bool
are_for q cs = list_any (λ (c : Command). is_same_request c.request q) cs

-- a command more
pub free_more : (t : Tables) (c : Command) (cs : List Command) → HasFreeOnlyFor t cs → HasFreeOnlyFor t (c ∷ cs)
free_more t c cs h = record {
  names = λ n p. behind (is_bound t n) (may_free c.op n) (are_about n cs) (h.names n p);
  replies = λ q p. behind (has_reply t q) (is_same_request c.request q) (are_for q cs) (h.replies q p);
}

-- where no place is free
pub free_all : (t : Tables) (cs : List Command) → HasFreeOnlyFor t [] → HasFreeOnlyFor t cs
free_all t [] h = h
free_all t (c ∷ cs) h = free_more t c cs (free_all t cs h)

-- one of the commands is named twice
pub free_known : (t : Tables) (cs : List Command) (i : ℕ) (c : Command) → i < length cs → c ≡ get_or cs i c → HasFreeOnlyFor t (c ∷ cs) → HasFreeOnlyFor t cs
free_known t cs i c l g h = record {
  names = λ n p. within (is_bound t n) (may_free c.op n) (are_about n cs) (λ e. list_any_at (λ (x : Command). may_free x.op n) cs i c l (ap (λ (x : Command). may_free x.op n) (sym g) ∙ e)) (h.names n p);
  replies = λ q p. within (has_reply t q) (is_same_request c.request q) (are_for q cs) (λ e. list_any_at (λ (x : Command). is_same_request x.request q) cs i c l (ap (λ (x : Command). is_same_request x.request q) (sym g) ∙ e)) (h.replies q p);
}

made : (b : Bool) (p q a d : Bool) → (b ≡ false → q ≡ p) → (p ≡ true → (a || d) ≡ true) → q ≡ true → (a || (b || d)) ≡ true
made true p q a d others h there = second a (true || d) refl
made false p q a d others h there = h (sym (others refl) ∙ there)

-- places made for a command
pub free_made : (t u : Tables) (c : Command) (cs : List Command) → kept_in u ≡ kept_in t → ((n : List ℕ) → may_free c.op n ≡ false → has_name_place u.names n ≡ has_name_place t.names n) → ((q : RequestNo) → is_same_request c.request q ≡ false → has_reply_place u q ≡ has_reply_place t q) → HasFreeOnlyFor t cs → HasFreeOnlyFor u (c ∷ cs)
free_made t u c cs same names replies h = record {
  names = λ n p. made (may_free c.op n) (has_name_place t.names n) (has_name_place u.names n) (is_bound u n) (are_about n cs) (names n)
      (λ old. ap (λ (k : Kept). is_some (holding_of k.bindings n) || are_about n cs) same ∙ h.names n old) p;
  replies = λ q p. made (is_same_request c.request q) (has_reply_place t q) (has_reply_place u q) (has_reply u q) (are_for q cs) (replies q)
      (λ old. ap (λ (k : Kept). is_some (kept_reply k q) || are_for q cs) same ∙ h.replies q old) p;
}

after : (old a b d : Bool) → (old ≡ true → (a || b) ≡ true) → (old || d) ≡ true → (a || (b || d)) ≡ true
after true a b d f h = begun a b d (f refl)
after false a b d f h = second a (b || d) (second b d h)

-- a command applied: its name may be free
pub free_names_done : (t u : Tables) (c : Command) (cs : List Command) → bindings_in u.names ≡ (apply_op (bindings_in t.names) c.request.client c.op).0 → ((n : List ℕ) → has_name_place u.names n ≡ has_name_place t.names n) → HasFreeNamesOnlyFor t cs → HasFreeNamesOnlyFor u (c ∷ cs)
free_names_done t u c cs bindings names h n p =
    after (is_bound t n) (is_bound u n) (may_free c.op n) (are_about n cs)
    (λ old. ap (λ (m : Bindings). is_some (holding_of m n) || may_free c.op n) bindings ∙ op_stays (bindings_in t.names) c.request.client c.op n old)
    (h n (sym (names n) ∙ p))

skipped : (a d : Bool) → (a || (false || d)) ≡ true → (a || d) ≡ true
skipped true d h = refl
skipped false d h = h

dropped : (b p q a d : Bool) → (b ≡ true → q ≡ a) → (b ≡ false → q ≡ p) → (p ≡ true → (a || (b || d)) ≡ true) → q ≡ true → (a || d) ≡ true
dropped true p q a d own others h there = first a d (sym (own refl) ∙ there)
dropped false p q a d own others h there = skipped a d (h (sym (others refl) ∙ there))

replied : {A : Type 0} (same : Bool) (x : A) (o : Option A) (d : Bool) → (is_some o || (same || d)) ≡ true → (is_some (cond same (Some x) o) || d) ≡ true
replied true x o d h = refl
replied false x o d h = skipped (is_some o) d h

-- and its request has a reply
pub free_replies_done : (t u : Tables) (c : Command) (reply : Reply) (cs : List Command) → (kept_in u).replies ≡ insert_entry request_cmp (kept_in t).replies c.request reply → ((q : RequestNo) → has_reply_place u q ≡ has_reply_place t q) → HasFreeRepliesOnlyFor t (c ∷ cs) → HasFreeRepliesOnlyFor u cs
free_replies_done t u c reply cs kept replies h q p =
    ap (λ rs. is_some (lookup (is_same_request q) rs) || are_for q cs) kept
    ∙ ap (λ o. is_some o || are_for q cs) (reply_kept (kept_in t) c.request (bindings_in t.names, reply) q ∙ ap (λ same. cond same (Some reply) (kept_reply (kept_in t) q)) (same_back q c.request))
    ∙ replied (is_same_request c.request q) reply (kept_reply (kept_in t) q) (are_for q cs) (h q (sym (replies q) ∙ p))

known : (a b d : Bool) → (b ≡ true → a ≡ true) → (a || (b || d)) ≡ true → (a || d) ≡ true
known true b d f h = refl
known false true d f h = first false d (f refl)
known false false d f h = h

-- a command that changes nothing, as its request had a reply
pub free_replies_known : (t u : Tables) (c : Command) (cs : List Command) → u.replies.entries ≡ t.replies.entries → is_some (kept_reply (kept_in t) c.request) ≡ true → HasFreeRepliesOnlyFor t (c ∷ cs) → HasFreeRepliesOnlyFor u cs
free_replies_known t u c cs same there h q p =
    ap (λ es. is_some (lookup (is_same_request q) (filled es)) || are_for q cs) same
    ∙ known (has_reply t q) (is_same_request c.request q) (are_for q cs) (λ e. subst (λ (x : RequestNo). has_reply t x ≡ true) (one_request c.request q e) there)
    (h q (ap (λ es. is_some (lookup (is_at (request_cmp q)) es)) (sym same) ∙ p))

-- the free places of a command dropped
pub free_dropped : (t u : Tables) (c : Command) (cs : List Command) → kept_in u ≡ kept_in t → ((n : List ℕ) → may_free c.op n ≡ true → has_name_place u.names n ≡ is_some (holding_of (bindings_in t.names) n)) → ((n : List ℕ) → may_free c.op n ≡ false → has_name_place u.names n ≡ has_name_place t.names n) → has_reply_place u c.request ≡ is_some (kept_reply (kept_in t) c.request) → ((q : RequestNo) → is_same_request c.request q ≡ false → has_reply_place u q ≡ has_reply_place t q) → HasFreeOnlyFor t (c ∷ cs) → HasFreeOnlyFor u cs
free_dropped t u c cs same name names request replies h = record {
  names = λ n p. ap (λ (k : Kept). is_some (holding_of k.bindings n) || are_about n cs) same
      ∙ dropped (may_free c.op n) (has_name_place t.names n) (has_name_place u.names n) (is_bound t n) (are_about n cs)
      (name n) (names n) (h.names n) p;
  replies = λ q p. ap (λ (k : Kept). is_some (kept_reply k q) || are_for q cs) same
      ∙ dropped (is_same_request c.request q) (has_reply_place t q) (has_reply_place u q) (has_reply t q) (are_for q cs)
      (λ e. subst (λ (x : RequestNo). has_reply_place u x ≡ is_some (kept_reply (kept_in t) x)) (one_request c.request q e) request)
      (replies q) (h.replies q) p;
}

-- one of the commands that are left, done
pub free_next : (t u : Tables) (cs : List Command) (i : ℕ) (c : Command) → i < length cs → c ≡ get_or cs i c → HasFreeOnlyFor t (drop i cs) → ((ds : List Command) → HasFreeOnlyFor t (c ∷ ds) → HasFreeOnlyFor u ds) → HasFreeOnlyFor u (drop (i + 1) cs)
free_next t u cs i c l g h f = f (drop (i + 1) cs) (subst (HasFreeOnlyFor t) (drop_more cs i c l ∙ ap (λ (x : Command). x ∷ drop (i + 1) cs) (sym g)) h)

-- none is left
pub free_end : (t : Tables) (cs : List Command) (i : ℕ) → length cs ≤ i → HasFreeOnlyFor t (drop i cs) → HasFreeOnlyFor t []
free_end t cs i l h = subst (HasFreeOnlyFor t) (drop_all i cs l) h

-- the same for replies alone
pub free_replies_next : (t u : Tables) (cs : List Command) (i : ℕ) (c : Command) → i < length cs → c ≡ get_or cs i c → HasFreeRepliesOnlyFor t (drop i cs) → ((ds : List Command) → HasFreeRepliesOnlyFor t (c ∷ ds) → HasFreeRepliesOnlyFor u ds) → HasFreeRepliesOnlyFor u (drop (i + 1) cs)
free_replies_next t u cs i c l g h f = f (drop (i + 1) cs) (subst (HasFreeRepliesOnlyFor t) (drop_more cs i c l ∙ ap (λ (x : Command). x ∷ drop (i + 1) cs) (sym g)) h)

pub free_replies_end : (t : Tables) (cs : List Command) (i : ℕ) → length cs ≤ i → HasFreeRepliesOnlyFor t (drop i cs) → HasFreeRepliesOnlyFor t []
free_replies_end t cs i l h = subst (HasFreeRepliesOnlyFor t) (drop_all i cs l) h

-- one of the commands whose names may be free is named twice
pub free_names_known : (t : Tables) (cs : List Command) (i : ℕ) (c : Command) → i < length cs → c ≡ get_or cs i c → HasFreeNamesOnlyFor t (c ∷ cs) → HasFreeNamesOnlyFor t cs
free_names_known t cs i c l g h n p = within (is_bound t n) (may_free c.op n) (are_about n cs) (λ e. list_any_at (λ (x : Command). may_free x.op n) cs i c l (ap (λ (x : Command). may_free x.op n) (sym g) ∙ e)) (h n p)

-- The files of clusters: what is read is printed so, and what is printed is read again.
use Rattle.std.proofs.Common.{◌≡◌, ℕ, ◌<◌, ◌^◌, ◌+◌, ◌-◌, ◌≤◌, Bool, true, false, cond, leb, eqb, ◌&&◌, List, [], ◌∷◌, ◌++◌, Option, None, Some, IfSome, codes, decimal, refl, ap, ap₂, subst, ◌∙◌, sym, arith}
use Rattle.std.specs.Str.{bytes_eq}
use Rattle.std.proofs.lemmas.Fmt.{decimal_digit}
use Rattle.std.proofs.lemmas.List.{append_assoc}
use Rattle.std.proofs.lemmas.Option.{same_Some, cond_some}
use Rattle.std.proofs.lemmas.Bool.{and_parts, eqb-true, leb-true, le-leb}
use Rattle.rr_text.specs.Words.{set_text}
use Rattle.rr_text.specs.Reading.{◌>>=◌, cut_at, number_at, set_at}
use Rattle.rr_text.proofs.CutLemmas.{AtLeast, bind_some, cut_again, cut_takes, plain_by_test}
use Rattle.rr_text.proofs.NumberLemmas.{decimal_plain, number_again, number_takes, node_again, node_takes}
use Rattle.rr_text.proofs.WordReading.{AtLeast-weaken, same_text, set_again, set_takes, set_plain}
use Rattle.rr_text.proofs.EventReading.{joined}
use Rattle.rr_folders.specs.declared.cluster.Identity.{Identity}
use Rattle.rr_folders.specs.declared.cluster.Cluster.{Cluster}
use Rattle.rr_folders.specs.declared.cluster.Mark.{Mark}
use Rattle.rr_folders.specs.declared.cluster.Digest.{Digest}
use Rattle.rr_folders.specs.declared.cluster.Reached.{Reached}
use Rattle.rr_folders.specs.declared.cluster.Course.{Course}
use Rattle.rr_folders.specs.Clusters.{IsIdentity, IsCluster, IsDigest, IsReached, IsCourse, IsMark}
use Rattle.rr_folders.specs.ClusterTexts.{headed, cluster_line, cluster_text, digest_words, reached_words, replaced_front, mark_head, mark_line, mark_text}
use Rattle.rr_folders.specs.Reading.{line_from, line_at, identity_at, head_at, count_at, node_at, cluster_line_at, cluster_at, number_then_at, digest_at, reached_at, replaced_at, plain_mark_at, far_mark_at, mark_or, mark_line_at, mark_at}

-- a step that was taken only where a test held
cond_some_of : {A : Type 0} (b : Bool) (x : Option A) (y : A) → cond b x None ≡ Some y → (b ≡ true) × (x ≡ Some y)
cond_some_of true x y e = (refl, e)
cond_some_of false x y e = absurd cc

-- ---- the line

line_from_takes : (a b t : List ℕ) → line_from (a, b) ≡ Some t → (a ≡ t) × (b ≡ [])
line_from_takes a [] t e = (same_Some a t e, refl)
line_from_takes a (c ∷ b) t e = absurd cc

line_takes : (bytes t : List ℕ) → line_at bytes ≡ Some t → bytes ≡ t ++ 10 ∷ []
line_takes bytes t e =
    let w = bind_some (cut_at 10 bytes) line_from t e in
    let p = line_from_takes w.0.0 w.0.1 t w.2 in
    cut_takes 10 bytes w.0.0 w.0.1 w.1 ∙ ap (λ (y : List ℕ). y ++ 10 ∷ w.0.1) p.0 ∙ ap (λ (y : List ℕ). t ++ 10 ∷ y) p.1

line_again : (t : List ℕ) → AtLeast 32 t → line_at (t ++ 10 ∷ []) ≡ Some t
line_again t plain = rw (cut_again 10 32 t [] (omega arith) plain) refl

-- ---- numbers of nodes

count_takes : (w : List ℕ) (n : ℕ) → count_at w ≡ Some n → (decimal n ≡ w) × (1 ≤ n) × (n ≤ 7)
count_takes [] n e = absurd cc
count_takes (b ∷ []) n e =
    let g = cond_some (leb 49 b && leb b 55) (b - 48) n e in
    let p = and_parts (leb 49 b) (leb b 55) g.0 in
    let low = leb-true 49 b p.0 in
    let high = leb-true b 55 p.1 in
    let is : 48 + n ≡ b = omega (arith, low, g.1) in
    (decimal_digit n (omega (arith, high, g.1)) ∙ ap (λ c. c ∷ []) is, omega (arith, low, g.1), omega (arith, high, g.1))
count_takes (b ∷ c ∷ w) n e = absurd cc

count_again : (n : ℕ) → 1 ≤ n → n ≤ 7 → count_at (decimal n) ≡ Some n
count_again n some few =
    let d : decimal n ≡ (48 + n) ∷ [] = decimal_digit n (omega arith) in
    let back : 48 + n - 48 ≡ n = omega arith in
    rw (d, le-leb 49 (48 + n) (omega arith), le-leb (48 + n) 55 (omega arith), back) refl

-- ---- the head

-- an identity that was read, and the text that it was read from
abbrev WasRead : List ℕ → Identity × List ℕ → Type 0
WasRead text x = IsIdentity x.0 × (text ≡ decimal x.0.first ++ 32 ∷ (decimal x.0.second ++ 32 ∷ x.1))

identity_takes : (text : List ℕ) (x : Identity × List ℕ) → identity_at text ≡ Some x → WasRead text x
identity_takes text x e =
    let a = bind_some (cut_at 32 text) (λ a. number_at a.0 >>= λ first. cut_at 32 a.1 >>= λ b. number_at b.0 >>= λ second. Some (record { first = first; second = second }, b.1)) x e in
    let n = bind_some (number_at a.0.0) (λ first. cut_at 32 a.0.1 >>= λ b. number_at b.0 >>= λ second. Some (record { first = first; second = second }, b.1)) x a.2 in
    let b = bind_some (cut_at 32 a.0.1) (λ b. number_at b.0 >>= λ second. Some (record { first = n.0; second = second }, b.1)) x n.2 in
    let m = bind_some (number_at b.0.0) (λ second. Some (record { first = n.0; second = second }, b.0.1)) x b.2 in
    let first = number_takes a.0.0 n.0 n.1 in
    let second = number_takes b.0.0 m.0 m.1 in
    let i : Identity = record { first = n.0; second = m.0 } in
    let front : text ≡ decimal n.0 ++ 32 ∷ a.0.1 = cut_takes 32 text a.0.0 a.0.1 a.1 ∙ ap (λ (y : List ℕ). y ++ 32 ∷ a.0.1) (sym first.0) in
    let behind : a.0.1 ≡ decimal m.0 ++ 32 ∷ b.0.1 = cut_takes 32 a.0.1 b.0.0 b.0.1 b.1 ∙ ap (λ (y : List ℕ). y ++ 32 ∷ b.0.1) (sym second.0) in
    subst (λ (y : Identity × List ℕ). WasRead text y) (same_Some (i, b.0.1) x m.2)
    (record { first = first.1; second = second.1 }, front ∙ ap (λ (y : List ℕ). decimal n.0 ++ 32 ∷ y) behind)

identity_again : (i : Identity) (rest : List ℕ) → IsIdentity i → identity_at (decimal i.first ++ 32 ∷ (decimal i.second ++ 32 ∷ rest)) ≡ Some (i, rest)
identity_again i rest h =
    rw (
      cut_again 32 33 (decimal i.first) (decimal i.second ++ 32 ∷ rest) (omega arith) (decimal_plain i.first h.first),
      number_again i.first h.first,
      cut_again 32 33 (decimal i.second) rest (omega arith) (decimal_plain i.second h.second),
      number_again i.second h.second,
    ) refl

head_takes : (word text : List ℕ) (x : Identity × List ℕ) → head_at word text ≡ Some x → IsIdentity x.0 × (text ≡ headed word x.0 x.1)
head_takes word text x e =
    let w = bind_some (cut_at 32 text) (λ w. cond (bytes_eq w.0 word) (identity_at w.1) None) x e in
    let g = cond_some_of (bytes_eq w.0.0 word) (identity_at w.0.1) x w.2 in
    let t = identity_takes w.0.1 x g.1 in
    (t.0, cut_takes 32 text w.0.0 w.0.1 w.1 ∙ ap (λ (y : List ℕ). y ++ 32 ∷ w.0.1) (same_text w.0.0 word g.0) ∙ ap (λ (y : List ℕ). word ++ 32 ∷ y) t.1)

head_again : (word : List ℕ) (i : Identity) (rest : List ℕ) → AtLeast 33 word → bytes_eq word word ≡ true → IsIdentity i → head_at word (headed word i rest) ≡ Some (i, rest)
head_again word i rest plain same h =
    rw (cut_again 32 33 word (decimal i.first ++ 32 ∷ (decimal i.second ++ 32 ∷ rest)) (omega arith) plain, same) (identity_again i rest h)

headed_plain : (word : List ℕ) (i : Identity) (rest : List ℕ) → AtLeast 33 word → IsIdentity i → AtLeast 32 rest → AtLeast 32 (headed word i rest)
headed_plain word i rest plain h more =
    joined word _ plain (joined (decimal i.first) _ (decimal_plain i.first h.first) (joined (decimal i.second) rest (decimal_plain i.second h.second) more))

-- ---- how often nodes were replaced

-- a number that was read, and the text that it was read from
abbrev WasNumber : List ℕ → ℕ × List ℕ → Type 0
WasNumber text x = (x.0 < 2 ^ 64) × (text ≡ decimal x.0 ++ 32 ∷ x.1)

number_then_takes : (text : List ℕ) (x : ℕ × List ℕ) → number_then_at text ≡ Some x → WasNumber text x
number_then_takes text x e =
    let w = bind_some (cut_at 32 text) (λ w. number_at w.0 >>= λ n. Some (n, w.1)) x e in
    let n = bind_some (number_at w.0.0) (λ n. Some (n, w.0.1)) x w.2 in
    let t = number_takes w.0.0 n.0 n.1 in
    subst (λ (y : ℕ × List ℕ). WasNumber text y) (same_Some (n.0, w.0.1) x n.2)
    (t.1, cut_takes 32 text w.0.0 w.0.1 w.1 ∙ ap (λ (y : List ℕ). y ++ 32 ∷ w.0.1) (sym t.0))

number_then_again : (n : ℕ) (rest : List ℕ) → n < 2 ^ 64 → number_then_at (decimal n ++ 32 ∷ rest) ≡ Some (n, rest)
number_then_again n rest h = rw (cut_again 32 33 (decimal n) rest (omega arith) (decimal_plain n h), number_again n h) refl

-- a step that was taken only where a test didn't hold
cond_some_but : {A : Type 0} (b : Bool) (y x : A) → cond b None (Some y) ≡ Some x → (b ≡ false) × (y ≡ x)
cond_some_but true y x e = absurd cc
cond_some_but false y x e = (refl, same_Some y x e)

-- the front of a line, where nodes were replaced
front_is : (r : ℕ) (rest : List ℕ) → eqb r 0 ≡ false → replaced_front r ++ rest ≡ codes "replaced" ++ 32 ∷ (decimal r ++ 32 ∷ rest)
front_is r rest some =
    ap (λ (b : Bool). cond b [] (codes "replaced" ++ 32 ∷ (decimal r ++ 32 ∷ [])) ++ rest) some
    ∙ append_assoc (codes "replaced") (32 ∷ (decimal r ++ 32 ∷ [])) rest
    ∙ ap (λ (y : List ℕ). codes "replaced" ++ 32 ∷ y) (append_assoc (decimal r) (32 ∷ []) rest)

-- a front that was read, and the text that it was read from
abbrev WasReplaced : List ℕ → ℕ × List ℕ → Type 0
WasReplaced text x = (x.0 < 2 ^ 64) × (text ≡ replaced_front x.0 ++ x.1)

replaced_by : (text : List ℕ) (w : List ℕ × List ℕ) (x : ℕ × List ℕ) (b : Bool) → text ≡ w.0 ++ 32 ∷ w.1 → bytes_eq w.0 (codes "replaced") ≡ b
    → cond b (number_then_at w.1 >>= λ n. cond (eqb n.0 0) None (Some n)) (Some (0, text)) ≡ Some x → WasReplaced text x
replaced_by text w x false front other e = subst (λ (y : ℕ × List ℕ). WasReplaced text y) (same_Some (0, text) x e) (omega arith, refl)
replaced_by text w x true front is e =
    let n = bind_some (number_then_at w.1) (λ n. cond (eqb n.0 0) None (Some n)) x e in
    let t = number_then_takes w.1 n.0 n.1 in
    let some = cond_some_but (eqb n.0.0 0) n.0 x n.2 in
    subst (λ (y : ℕ × List ℕ). WasReplaced text y) some.1 (
      t.0,
      front
          ∙ ap (λ (y : List ℕ). y ++ 32 ∷ w.1) (same_text w.0 (codes "replaced") is)
          ∙ ap (λ (y : List ℕ). codes "replaced" ++ 32 ∷ y) t.1
          ∙ sym (front_is n.0.0 n.0.1 some.0),
    )

replaced_takes : (text : List ℕ) (x : ℕ × List ℕ) → replaced_at text ≡ Some x → WasReplaced text x
replaced_takes text x e =
    let w = bind_some (cut_at 32 text) (λ w. cond (bytes_eq w.0 (codes "replaced")) (number_then_at w.1 >>= λ n. cond (eqb n.0 0) None (Some n)) (Some (0, text))) x e in
    replaced_by text w.0 x (bytes_eq w.0.0 (codes "replaced")) (cut_takes 32 text w.0.0 w.0.1 w.1) refl w.2

-- a line of another first word has no front
none_again : (word : List ℕ) (i : Identity) (rest : List ℕ) → AtLeast 33 word → bytes_eq word (codes "replaced") ≡ false
    → replaced_at (headed word i rest) ≡ Some (0, headed word i rest)
none_again word i rest plain other =
    rw (cut_again 32 33 word (decimal i.first ++ 32 ∷ (decimal i.second ++ 32 ∷ rest)) (omega arith) plain, other) refl

some_again : (r : ℕ) (rest : List ℕ) → r < 2 ^ 64 → eqb r 0 ≡ false → replaced_at (codes "replaced" ++ 32 ∷ (decimal r ++ 32 ∷ rest)) ≡ Some (r, rest)
some_again r rest h some =
    rw (
      cut_again 32 33 (codes "replaced") (decimal r ++ 32 ∷ rest) (omega arith) (plain_by_test (codes "replaced") refl),
      number_then_again r rest h,
      some,
    ) refl

replaced_again_by : (r : ℕ) (word : List ℕ) (i : Identity) (rest : List ℕ) (b : Bool) → eqb r 0 ≡ b → r < 2 ^ 64 → AtLeast 33 word
    → bytes_eq word (codes "replaced") ≡ false → replaced_at (replaced_front r ++ headed word i rest) ≡ Some (r, headed word i rest)
replaced_again_by r word i rest true is h plain other =
    subst (λ (k : ℕ). replaced_at (replaced_front k ++ headed word i rest) ≡ Some (k, headed word i rest)) (sym (eqb-true r 0 is)) (none_again word i rest plain other)
replaced_again_by r word i rest false is h plain other = ap replaced_at (front_is r (headed word i rest) is) ∙ some_again r (headed word i rest) h is

replaced_again : (r : ℕ) (word : List ℕ) (i : Identity) (rest : List ℕ) → r < 2 ^ 64 → AtLeast 33 word
    → bytes_eq word (codes "replaced") ≡ false → replaced_at (replaced_front r ++ headed word i rest) ≡ Some (r, headed word i rest)
replaced_again r word i rest h plain other = replaced_again_by r word i rest (eqb r 0) refl h plain other

front_plain_by : (r : ℕ) (rest : List ℕ) (b : Bool) → eqb r 0 ≡ b → r < 2 ^ 64 → AtLeast 32 rest → AtLeast 32 (replaced_front r ++ rest)
front_plain_by r rest true is h more = subst (λ (k : ℕ). AtLeast 32 (replaced_front k ++ rest)) (sym (eqb-true r 0 is)) more
front_plain_by r rest false is h more =
    subst (λ (y : List ℕ). AtLeast 32 y) (sym (front_is r rest is))
    (joined (codes "replaced") _ (plain_by_test (codes "replaced") refl) (joined (decimal r) rest (decimal_plain r h) more))

-- the bytes of a file, by its line with its front
bytes_are : (bytes text : List ℕ) (r s : ℕ) (rest line : List ℕ) → bytes ≡ text ++ 10 ∷ [] → text ≡ replaced_front r ++ rest → s ≡ r → rest ≡ line
    → bytes ≡ replaced_front s ++ (line ++ 10 ∷ [])
bytes_are bytes text r s rest line whole front same is =
    whole
    ∙ ap (λ (y : List ℕ). y ++ 10 ∷ []) (front ∙ ap₂ (λ (k : ℕ) (y : List ℕ). replaced_front k ++ y) (sym same) is)
    ∙ append_assoc (replaced_front s) line (10 ∷ [])

-- the line of a file that was printed, with its front
line_again_behind : (r : ℕ) (line : List ℕ) → r < 2 ^ 64 → AtLeast 32 line → line_at (replaced_front r ++ (line ++ 10 ∷ [])) ≡ Some (replaced_front r ++ line)
line_again_behind r line h plain =
    ap line_at (sym (append_assoc (replaced_front r) line (10 ∷ []))) ∙ line_again (replaced_front r ++ line) (front_plain_by r line (eqb r 0) refl h plain)

-- ---- the cluster's file

-- a cluster whose line was read, in front of which stood how often nodes were replaced
abbrev WasCluster : ℕ × List ℕ → Cluster → Type 0
WasCluster x c = IsCluster c × (c.replaced ≡ x.0) × (x.1 ≡ cluster_line c)

cluster_line_takes : (x : ℕ × List ℕ) (c : Cluster) → x.0 < 2 ^ 64 → cluster_line_at x ≡ Some c → WasCluster x c
cluster_line_takes x c few e =
    let h = bind_some (head_at (codes "cluster-1") x.1) (λ h. cut_at 32 h.1 >>= λ w. count_at w.0 >>= λ n. set_at n w.1 >>= λ s. Some (record { identity = h.0; nodes = n; formatted = s; replaced = x.0 })) c e in
    let w = bind_some (cut_at 32 h.0.1) (λ w. count_at w.0 >>= λ n. set_at n w.1 >>= λ s. Some (record { identity = h.0.0; nodes = n; formatted = s; replaced = x.0 })) c h.2 in
    let n = bind_some (count_at w.0.0) (λ n. set_at n w.0.1 >>= λ s. Some (record { identity = h.0.0; nodes = n; formatted = s; replaced = x.0 })) c w.2 in
    let s = bind_some (set_at n.0 w.0.1) (λ s. Some (record { identity = h.0.0; nodes = n.0; formatted = s; replaced = x.0 })) c n.2 in
    let head = head_takes (codes "cluster-1") x.1 h.0 h.1 in
    let count = count_takes w.0.0 n.0 n.1 in
    let set = set_takes n.0 w.0.1 s.0 s.1 in
    let made : Cluster = record { identity = h.0.0; nodes = n.0; formatted = s.0; replaced = x.0 } in
    let tail : h.0.1 ≡ decimal n.0 ++ 32 ∷ set_text s.0 =
    cut_takes 32 h.0.1 w.0.0 w.0.1 w.1 ∙ ap (λ (y : List ℕ). y ++ 32 ∷ w.0.1) (sym count.0) ∙ ap (λ (y : List ℕ). decimal n.0 ++ 32 ∷ y) (sym set.0) in
    let text : x.1 ≡ cluster_line made = head.1 ∙ ap (λ (y : List ℕ). headed (codes "cluster-1") h.0.0 y) tail in
    subst (λ (d : Cluster). WasCluster x d) (same_Some made c s.2)
    (record { identity = head.0; some = count.1; few = count.2; below = set.1; replaced = few }, refl, text)

pub cluster_takes : (bytes : List ℕ) (c : Cluster) → cluster_at bytes ≡ Some c → IsCluster c × (bytes ≡ cluster_text c)
cluster_takes bytes c e =
    let l = bind_some (line_at bytes) (λ text. replaced_at text >>= cluster_line_at) c e in
    let x = bind_some (replaced_at l.0) cluster_line_at c l.2 in
    let front = replaced_takes l.0 x.0 x.1 in
    let t = cluster_line_takes x.0 c front.0 x.2 in
    (t.0, bytes_are bytes l.0 x.0.0 c.replaced x.0.1 (cluster_line c) (line_takes bytes l.0 l.1) front.1 t.1 t.2)

cluster_line_again : (c : Cluster) → IsCluster c → cluster_line_at (c.replaced, cluster_line c) ≡ Some c
cluster_line_again c h =
    rw (
      head_again (codes "cluster-1") c.identity (decimal c.nodes ++ 32 ∷ set_text c.formatted) (plain_by_test (codes "cluster-1") refl) refl h.identity,
      cut_again 32 33 (decimal c.nodes) (set_text c.formatted) (omega arith) (decimal_plain c.nodes (omega (arith, h.few))),
      count_again c.nodes h.some h.few,
      set_again c.nodes c.formatted h.few h.below,
    ) refl

pub cluster_again : (c : Cluster) → IsCluster c → cluster_at (cluster_text c) ≡ Some c
cluster_again c h =
    let plain : AtLeast 33 (codes "cluster-1") = plain_by_test (codes "cluster-1") refl in
    let count : AtLeast 33 (decimal c.nodes) = decimal_plain c.nodes (omega (arith, h.few)) in
    let line : AtLeast 32 (cluster_line c) =
    headed_plain (codes "cluster-1") c.identity _ plain h.identity (joined (decimal c.nodes) _ count (AtLeast-weaken 32 33 (set_text c.formatted) (omega arith) (set_plain c.formatted))) in
    ap (λ (o : Option (List ℕ)). o >>= λ text. replaced_at text >>= cluster_line_at) (line_again_behind c.replaced (cluster_line c) h.replaced line)
    ∙ ap (λ (o : Option (ℕ × List ℕ)). o >>= cluster_line_at) (replaced_again c.replaced (codes "cluster-1") c.identity (decimal c.nodes ++ 32 ∷ set_text c.formatted) h.replaced plain refl)
    ∙ cluster_line_again c h

pub cluster_only : (bytes : List ℕ) (r : Option Cluster) → r ≡ cluster_at bytes → (c : Cluster) → IsCluster c → bytes ≡ cluster_text c → r ≡ Some c
cluster_only bytes r is c h text = is ∙ ap cluster_at text ∙ cluster_again c h

-- ---- how far an area came

-- a digest, then more
abbrev digest_then : Digest → List ℕ → List ℕ
digest_then d rest = decimal d.first ++ 32 ∷ (decimal d.second ++ 32 ∷ (decimal d.third ++ 32 ∷ (decimal d.fourth ++ 32 ∷ rest)))

-- how far an area came, then more
abbrev reached_then : Reached → List ℕ → List ℕ
reached_then r rest = decimal r.epoch ++ 32 ∷ (decimal r.length ++ 32 ∷ digest_then r.digest rest)

-- a mark's line, with its words in a row
abbrev mark_words : Identity → Option Course → List ℕ → List ℕ
mark_words i None rest = headed (codes "node-1") i rest
mark_words i (Some c) rest = headed (codes "node-2") i (reached_then c.from (reached_then c.to rest))

digest_in_row : (d : Digest) (rest : List ℕ) → digest_words d ++ 32 ∷ rest ≡ digest_then d rest
digest_in_row d rest =
    append_assoc (decimal d.first) (32 ∷ (decimal d.second ++ 32 ∷ (decimal d.third ++ 32 ∷ decimal d.fourth))) (32 ∷ rest)
    ∙ ap (λ (y : List ℕ). decimal d.first ++ 32 ∷ y) (append_assoc (decimal d.second) (32 ∷ (decimal d.third ++ 32 ∷ decimal d.fourth)) (32 ∷ rest)
    ∙ ap (λ (y : List ℕ). decimal d.second ++ 32 ∷ y) (append_assoc (decimal d.third) (32 ∷ decimal d.fourth) (32 ∷ rest)))

reached_in_row : (r : Reached) (rest : List ℕ) → reached_words r ++ 32 ∷ rest ≡ reached_then r rest
reached_in_row r rest =
    append_assoc (decimal r.epoch) (32 ∷ (decimal r.length ++ 32 ∷ digest_words r.digest)) (32 ∷ rest)
    ∙ ap (λ (y : List ℕ). decimal r.epoch ++ 32 ∷ y) (append_assoc (decimal r.length) (32 ∷ digest_words r.digest) (32 ∷ rest)
    ∙ ap (λ (y : List ℕ). decimal r.length ++ 32 ∷ y) (digest_in_row r.digest rest))

headed_in_row : (word : List ℕ) (i : Identity) (words rest : List ℕ) → headed word i words ++ rest ≡ headed word i (words ++ rest)
headed_in_row word i words rest =
    append_assoc word (32 ∷ (decimal i.first ++ 32 ∷ (decimal i.second ++ 32 ∷ words))) rest
    ∙ ap (λ (y : List ℕ). word ++ 32 ∷ y) (append_assoc (decimal i.first) (32 ∷ (decimal i.second ++ 32 ∷ words)) rest
    ∙ ap (λ (y : List ℕ). decimal i.first ++ 32 ∷ y) (append_assoc (decimal i.second) (32 ∷ words) rest))

line_in_row : (i : Identity) (far : Option Course) (p : ℕ) → mark_head i far ++ 32 ∷ decimal p ≡ mark_words i far (decimal p)
line_in_row i None p =
    append_assoc (codes "node-1") (32 ∷ (decimal i.first ++ 32 ∷ decimal i.second)) (32 ∷ decimal p)
    ∙ ap (λ (y : List ℕ). codes "node-1" ++ 32 ∷ y) (append_assoc (decimal i.first) (32 ∷ decimal i.second) (32 ∷ decimal p))
line_in_row i (Some c) p =
    headed_in_row (codes "node-2") i (reached_words c.from ++ 32 ∷ reached_words c.to) (32 ∷ decimal p)
    ∙ ap (λ (y : List ℕ). headed (codes "node-2") i y) (append_assoc (reached_words c.from) (32 ∷ reached_words c.to) (32 ∷ decimal p)
    ∙ ap (λ (y : List ℕ). reached_words c.from ++ 32 ∷ y) (reached_in_row c.to (decimal p))
    ∙ reached_in_row c.from (reached_then c.to (decimal p)))

abbrev WasDigest : List ℕ → Digest × List ℕ → Type 0
WasDigest text x = IsDigest x.0 × (text ≡ digest_then x.0 x.1)

digest_takes : (text : List ℕ) (x : Digest × List ℕ) → digest_at text ≡ Some x → WasDigest text x
digest_takes text x e =
    let a = bind_some (number_then_at text) (λ a. number_then_at a.1 >>= λ b. number_then_at b.1 >>= λ c. number_then_at c.1 >>= λ d. Some (record { first = a.0; second = b.0; third = c.0; fourth = d.0 }, d.1)) x e in
    let b = bind_some (number_then_at a.0.1) (λ b. number_then_at b.1 >>= λ c. number_then_at c.1 >>= λ d. Some (record { first = a.0.0; second = b.0; third = c.0; fourth = d.0 }, d.1)) x a.2 in
    let c = bind_some (number_then_at b.0.1) (λ c. number_then_at c.1 >>= λ d. Some (record { first = a.0.0; second = b.0.0; third = c.0; fourth = d.0 }, d.1)) x b.2 in
    let d = bind_some (number_then_at c.0.1) (λ d. Some (record { first = a.0.0; second = b.0.0; third = c.0.0; fourth = d.0 }, d.1)) x c.2 in
    let first = number_then_takes text a.0 a.1 in
    let second = number_then_takes a.0.1 b.0 b.1 in
    let third = number_then_takes b.0.1 c.0 c.1 in
    let fourth = number_then_takes c.0.1 d.0 d.1 in
    let made : Digest = record { first = a.0.0; second = b.0.0; third = c.0.0; fourth = d.0.0 } in
    let text_is : text ≡ digest_then made d.0.1 =
    first.1
    ∙ ap (λ (y : List ℕ). decimal a.0.0 ++ 32 ∷ y) second.1
    ∙ ap (λ (y : List ℕ). decimal a.0.0 ++ 32 ∷ (decimal b.0.0 ++ 32 ∷ y)) third.1
    ∙ ap (λ (y : List ℕ). decimal a.0.0 ++ 32 ∷ (decimal b.0.0 ++ 32 ∷ (decimal c.0.0 ++ 32 ∷ y))) fourth.1
    in
    subst (λ (y : Digest × List ℕ). WasDigest text y) (same_Some (made, d.0.1) x d.2)
    (record { first = first.0; second = second.0; third = third.0; fourth = fourth.0 }, text_is)

digest_again : (d : Digest) (rest : List ℕ) → IsDigest d → digest_at (digest_then d rest) ≡ Some (d, rest)
digest_again d rest h =
    rw (
      number_then_again d.first (decimal d.second ++ 32 ∷ (decimal d.third ++ 32 ∷ (decimal d.fourth ++ 32 ∷ rest))) h.first,
      number_then_again d.second (decimal d.third ++ 32 ∷ (decimal d.fourth ++ 32 ∷ rest)) h.second,
      number_then_again d.third (decimal d.fourth ++ 32 ∷ rest) h.third,
      number_then_again d.fourth rest h.fourth,
    ) refl

digest_plain : (d : Digest) (rest : List ℕ) → IsDigest d → AtLeast 32 rest → AtLeast 32 (digest_then d rest)
digest_plain d rest h more =
    joined (decimal d.first) _ (decimal_plain d.first h.first) (joined (decimal d.second) _ (decimal_plain d.second h.second)
    (joined (decimal d.third) _ (decimal_plain d.third h.third) (joined (decimal d.fourth) rest (decimal_plain d.fourth h.fourth) more)))

abbrev WasReached : List ℕ → Reached × List ℕ → Type 0
WasReached text x = IsReached x.0 × (text ≡ reached_then x.0 x.1)

reached_takes : (text : List ℕ) (x : Reached × List ℕ) → reached_at text ≡ Some x → WasReached text x
reached_takes text x e =
    let a = bind_some (number_then_at text) (λ e. number_then_at e.1 >>= λ l. digest_at l.1 >>= λ d. Some (record { epoch = e.0; length = l.0; digest = d.0 }, d.1)) x e in
    let l = bind_some (number_then_at a.0.1) (λ l. digest_at l.1 >>= λ d. Some (record { epoch = a.0.0; length = l.0; digest = d.0 }, d.1)) x a.2 in
    let d = bind_some (digest_at l.0.1) (λ d. Some (record { epoch = a.0.0; length = l.0.0; digest = d.0 }, d.1)) x l.2 in
    let epoch = number_then_takes text a.0 a.1 in
    let len = number_then_takes a.0.1 l.0 l.1 in
    let digest = digest_takes l.0.1 d.0 d.1 in
    let made : Reached = record { epoch = a.0.0; length = l.0.0; digest = d.0.0 } in
    let text_is : text ≡ reached_then made d.0.1 =
    epoch.1
    ∙ ap (λ (y : List ℕ). decimal a.0.0 ++ 32 ∷ y) len.1
    ∙ ap (λ (y : List ℕ). decimal a.0.0 ++ 32 ∷ (decimal l.0.0 ++ 32 ∷ y)) digest.1
    in
    subst (λ (y : Reached × List ℕ). WasReached text y) (same_Some (made, d.0.1) x d.2) (record { epoch = epoch.0; length = len.0; digest = digest.0 }, text_is)

reached_again : (r : Reached) (rest : List ℕ) → IsReached r → reached_at (reached_then r rest) ≡ Some (r, rest)
reached_again r rest h =
    rw (
      number_then_again r.epoch (decimal r.length ++ 32 ∷ digest_then r.digest rest) h.epoch,
      number_then_again r.length (digest_then r.digest rest) h.length,
      digest_again r.digest rest h.digest,
    ) refl

reached_plain : (r : Reached) (rest : List ℕ) → IsReached r → AtLeast 32 rest → AtLeast 32 (reached_then r rest)
reached_plain r rest h more =
    joined (decimal r.epoch) _ (decimal_plain r.epoch h.epoch) (joined (decimal r.length) _ (decimal_plain r.length h.length) (digest_plain r.digest rest h.digest more))

-- ---- the file in a node's folder

-- a mark whose line was read, in front of which stood how often the node had been replaced
abbrev WasMark : ℕ → List ℕ → Mark → Type 0
WasMark r text m = IsMark m × (m.replaced ≡ r) × (text ≡ mark_line m)

plain_mark_takes : (r : ℕ) (text : List ℕ) (m : Mark) → r < 2 ^ 64 → plain_mark_at r text ≡ Some m → WasMark r text m
plain_mark_takes r text m few e =
    let h = bind_some (head_at (codes "node-1") text) (λ h. node_at h.1 >>= λ p. Some (record { identity = h.0; node = p; course = None; replaced = r })) m e in
    let p = bind_some (node_at h.0.1) (λ p. Some (record { identity = h.0.0; node = p; course = None; replaced = r })) m h.2 in
    let head = head_takes (codes "node-1") text h.0 h.1 in
    let node = node_takes 7 h.0.1 p.0 (omega arith) p.1 in
    let made : Mark = record { identity = h.0.0; node = p.0; course = None; replaced = r } in
    let text_is : text ≡ mark_line made = head.1 ∙ ap (λ (y : List ℕ). headed (codes "node-1") h.0.0 y) (sym node.0) ∙ sym (line_in_row h.0.0 None p.0) in
    subst (λ (d : Mark). WasMark r text d) (same_Some made m p.2) (record { identity = head.0; node = node.1; course = tt; replaced = few }, refl, text_is)

far_mark_takes : (r : ℕ) (text : List ℕ) (m : Mark) → r < 2 ^ 64 → far_mark_at r text ≡ Some m → WasMark r text m
far_mark_takes r text m few e =
    let h = bind_some (head_at (codes "node-2") text) (λ h. reached_at h.1 >>= λ a. reached_at a.1 >>= λ b. node_at b.1 >>= λ p. Some (record { identity = h.0; node = p; course = Some (record { from = a.0; to = b.0 }); replaced = r })) m e in
    let a = bind_some (reached_at h.0.1) (λ a. reached_at a.1 >>= λ b. node_at b.1 >>= λ p. Some (record { identity = h.0.0; node = p; course = Some (record { from = a.0; to = b.0 }); replaced = r })) m h.2 in
    let b = bind_some (reached_at a.0.1) (λ b. node_at b.1 >>= λ p. Some (record { identity = h.0.0; node = p; course = Some (record { from = a.0.0; to = b.0 }); replaced = r })) m a.2 in
    let p = bind_some (node_at b.0.1) (λ p. Some (record { identity = h.0.0; node = p; course = Some (record { from = a.0.0; to = b.0.0 }); replaced = r })) m b.2 in
    let head = head_takes (codes "node-2") text h.0 h.1 in
    let from = reached_takes h.0.1 a.0 a.1 in
    let to = reached_takes a.0.1 b.0 b.1 in
    let node = node_takes 7 b.0.1 p.0 (omega arith) p.1 in
    let far : Course = record { from = a.0.0; to = b.0.0 } in
    let made : Mark = record { identity = h.0.0; node = p.0; course = Some far; replaced = r } in
    let text_is : text ≡ mark_line made =
    head.1
    ∙ ap (λ (y : List ℕ). headed (codes "node-2") h.0.0 y) (from.1 ∙ ap (λ (y : List ℕ). reached_then a.0.0 y) (to.1 ∙ ap (λ (y : List ℕ). reached_then b.0.0 y) (sym node.0)))
    ∙ sym (line_in_row h.0.0 (Some far) p.0)
    in
    subst (λ (d : Mark). WasMark r text d) (same_Some made m p.2)
    (record { identity = head.0; node = node.1; course = record { from = from.0; to = to.0 }; replaced = few }, refl, text_is)

either_mark_takes : (r : ℕ) (text : List ℕ) (x : Option Mark) (m : Mark) → r < 2 ^ 64 → plain_mark_at r text ≡ x → mark_or x (far_mark_at r text) ≡ Some m
    → WasMark r text m
either_mark_takes r text None m few is e = far_mark_takes r text m few e
either_mark_takes r text (Some k) m few is e = plain_mark_takes r text m few (is ∙ e)

pub mark_takes : (bytes : List ℕ) (m : Mark) → mark_at bytes ≡ Some m → IsMark m × (bytes ≡ mark_text m)
mark_takes bytes m e =
    let l = bind_some (line_at bytes) (λ text. replaced_at text >>= mark_line_at) m e in
    let x = bind_some (replaced_at l.0) mark_line_at m l.2 in
    let front = replaced_takes l.0 x.0 x.1 in
    let t = either_mark_takes x.0.0 x.0.1 (plain_mark_at x.0.0 x.0.1) m front.0 refl x.2 in
    (t.0, bytes_are bytes l.0 x.0.0 m.replaced x.0.1 (mark_line m) (line_takes bytes l.0 l.1) front.1 t.1 t.2)

-- a head of another word isn't read
head_other : (word other : List ℕ) (i : Identity) (rest : List ℕ) → AtLeast 33 other → bytes_eq other word ≡ false → head_at word (headed other i rest) ≡ None
head_other word other i rest plain differs =
    rw (cut_again 32 33 other (decimal i.first ++ 32 ∷ (decimal i.second ++ 32 ∷ rest)) (omega arith) plain, differs) refl

node_line_plain : (p : ℕ) → p < 7 → AtLeast 32 (decimal p)
node_line_plain p h = AtLeast-weaken 32 33 (decimal p) (omega arith) (decimal_plain p (omega (arith, h)))

mark_line_plain : (i : Identity) (far : Option Course) (p : ℕ) → IsIdentity i → IfSome far IsCourse → p < 7 → AtLeast 32 (mark_words i far (decimal p))
mark_line_plain i None p h far lt = headed_plain (codes "node-1") i (decimal p) (plain_by_test (codes "node-1") refl) h (node_line_plain p lt)
mark_line_plain i (Some c) p h far lt =
    headed_plain (codes "node-2") i _ (plain_by_test (codes "node-2") refl) h (reached_plain c.from _ far.from (reached_plain c.to (decimal p) far.to (node_line_plain p lt)))

line_again_mark : (r : ℕ) (i : Identity) (far : Option Course) (p : ℕ) → IsIdentity i → IfSome far IsCourse → p < 7
    → mark_line_at (r, mark_words i far (decimal p)) ≡ Some (record { identity = i; node = p; course = far; replaced = r })
line_again_mark r i None p h far lt =
    rw (head_again (codes "node-1") i (decimal p) (plain_by_test (codes "node-1") refl) refl h, node_again 7 p (omega arith) lt) refl
line_again_mark r i (Some c) p h far lt =
    rw (
      head_other (codes "node-1") (codes "node-2") i (reached_then c.from (reached_then c.to (decimal p))) (plain_by_test (codes "node-2") refl) refl,
      head_again (codes "node-2") i (reached_then c.from (reached_then c.to (decimal p))) (plain_by_test (codes "node-2") refl) refl h,
      reached_again c.from (reached_then c.to (decimal p)) far.from,
      reached_again c.to (decimal p) far.to,
      node_again 7 p (omega arith) lt,
    ) refl

front_again_mark : (r : ℕ) (i : Identity) (far : Option Course) (p : ℕ) → r < 2 ^ 64
    → replaced_at (replaced_front r ++ mark_words i far (decimal p)) ≡ Some (r, mark_words i far (decimal p))
front_again_mark r i None p few = replaced_again r (codes "node-1") i (decimal p) few (plain_by_test (codes "node-1") refl) refl
front_again_mark r i (Some c) p few =
    replaced_again r (codes "node-2") i (reached_then c.from (reached_then c.to (decimal p))) few (plain_by_test (codes "node-2") refl) refl

pub mark_again : (m : Mark) → IsMark m → mark_at (mark_text m) ≡ Some m
mark_again m h =
    let row = line_in_row m.identity m.course m.node in
    let plain : AtLeast 32 (mark_line m) = subst (λ (y : List ℕ). AtLeast 32 y) (sym row) (mark_line_plain m.identity m.course m.node h.identity h.course h.node) in
    ap (λ (o : Option (List ℕ)). o >>= λ text. replaced_at text >>= mark_line_at) (line_again_behind m.replaced (mark_line m) h.replaced plain)
    ∙ ap (λ (y : List ℕ). replaced_at (replaced_front m.replaced ++ y) >>= mark_line_at) row
    ∙ ap (λ (o : Option (ℕ × List ℕ)). o >>= mark_line_at) (front_again_mark m.replaced m.identity m.course m.node h.replaced)
    ∙ line_again_mark m.replaced m.identity m.course m.node h.identity h.course h.node

pub mark_only : (bytes : List ℕ) (r : Option Mark) → r ≡ mark_at bytes → (m : Mark) → IsMark m → bytes ≡ mark_text m → r ≡ Some m
mark_only bytes r is m h text = is ∙ ap mark_at text ∙ mark_again m h

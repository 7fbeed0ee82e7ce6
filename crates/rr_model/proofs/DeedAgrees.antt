-- What nodes say agrees with one list, in each history whose starts find their facts, also where disks are made anew.
use Rattle.std.proofs.Common.{◌≡◌, ℕ, zero, suc, List, [], ◌∷◌, ◌++◌, length, take, Contains, Some, slice_get, refl, sym, ◌∙◌, ap, subst, arith}
use Rattle.std.specs.List.{flat_map}
use Rattle.std.proofs.lemmas.List.Concat.{flat_map-append}
use Rattle.std.proofs.lemmas.List.{take_at}
use Rattle.std.proofs.lemmas.List.Elements.{Contains-append_left}
use Rattle.rr_types.specs.declared.command.Command.{Command}
use Rattle.rr_types.specs.declared.command.RequestNo.{RequestNo}
use Rattle.rr_types.specs.declared.command.Reply.{Reply}
use Rattle.rr_types.specs.declared.input.Input.TheVariants as input
use Rattle.rr_types.specs.declared.message.Body.TheVariants.{Decision}
use Rattle.rr_types.specs.declared.message.Message.{Message}
use Rattle.rr_types.specs.declared.promise.Entry.{Entry}
use Rattle.rr_types.specs.Promises.{decided_from}
use Rattle.rr_types.specs.Registry.{reply_of}
use Rattle.rr_model.specs.declared.deed.Deed.{Deed}
use Rattle.rr_model.specs.declared.deed.What.{What}
use Rattle.rr_model.specs.declared.deed.What.TheVariants.{Told, Sent, Acked, Up}
use Rattle.rr_model.specs.Deeds.{Life, Lives, nothing_done, after_deed, sent_by, IsHistoryFrom, IsHistory, FindsItsFacts, OpensWellFrom, OpensWell, deed_of, AgreesWithOneList}
use Rattle.rr_model.specs.Laws.{settled}
use Rattle.rr_model.specs.RenewedDisks.{Turn, Does, Renewed, after_turns, MayTurn, AreTurnsFrom, AreTurns, deeds_of, DoTurnsAgree}
use Rattle.rr_model.specs.Sound.{IsChosen, IsDecidedList}
use Rattle.rr_model.specs.World.{Acknowledged, empty_world, decided_prefix}
use Rattle.rr_model.proofs.DeedsInWorld.{told_by, submitted_by, down_is, left_shift}
use Rattle.rr_model.proofs.Growth.{chosen_grows}
use Rattle.rr_model.proofs.Invariants.{no_place}
use Rattle.rr_model.proofs.Laws.{stands_behind}
use Rattle.rr_model.proofs.Listed.{decided_list}
use Rattle.rr_model.proofs.NodePrefixes.{same_prefix}
use Rattle.rr_model.proofs.Places.{place_of, Contains-split}
use Rattle.rr_model.proofs.Prefixes.{Begins}
use Rattle.rr_model.proofs.Shifted.{IsShifted, shifted_prefix}
use Rattle.rr_model.proofs.TurnsInWorld.{starts_alike, TookAll, take_all, turns_front, turns_append, turns_wire, chosen_begins, one_here, list_submitted, left_chosen, left_replies, list_replies, decision_chosen}

-- ---- turns up to a deed

-- turns whose deeds are two lists of deeds
record Cut (ts : List Turn) (before after : List Deed) : Type 0 where
  first : List Turn
  second : List Turn
  is : ts ≡ first ++ second
  front : deeds_of first ≡ before
  back : deeds_of second ≡ after

-- one turn more
cut_more : (t : Turn) (ts : List Turn) (before after more : List Deed) → ((a : List Turn) → deeds_of a ≡ before → deeds_of (t ∷ a) ≡ more) → Cut ts before after → Cut (t ∷ ts) more after
cut_more t ts before after more f c = record { first = t ∷ c.first; second = c.second; is = ap (λ z. t ∷ z) c.is; front = f c.first c.front; back = c.back }

-- up to a moment
cut : (ts : List Turn) (before after : List Deed) → deeds_of ts ≡ before ++ after → Cut ts before after
cut ts [] after e = record { first = []; second = ts; is = refl; front = refl; back = e }
cut [] (y ∷ before) after e = absurd (let x : [] ≡ y ∷ (before ++ after) = e in cc)
cut (Does d ∷ ts) (y ∷ before) after e =
    let same : d ≡ y = cc in
    let rest : deeds_of ts ≡ before ++ after = cc in
    cut_more (Does d) ts before after (y ∷ before) (λ a x. ap (λ z. z ∷ deeds_of a) same ∙ ap (λ z. y ∷ z) x) (cut ts before after rest)
cut (Renewed p list ∷ ts) (y ∷ before) after e = cut_more (Renewed p list) ts (y ∷ before) after (y ∷ before) (λ a x. x) (cut ts (y ∷ before) after e)

-- up to a deed
record CutAt (ts : List Turn) (before : List Deed) (d : Deed) : Type 0 where
  first : List Turn
  second : List Turn
  is : ts ≡ first ++ Does d ∷ second
  front : deeds_of first ≡ before

cut_at : (ts : List Turn) (before : List Deed) (d : Deed) (after : List Deed) → deeds_of ts ≡ before ++ d ∷ after → CutAt ts before d
cut_at [] before d after e = absurd (no_place before after d e)
cut_at (Does g ∷ ts) [] d after e = let same : g ≡ d = cc in record { first = []; second = ts; is = ap (λ z. Does z ∷ ts) same; front = refl }
cut_at (Does g ∷ ts) (y ∷ before) d after e =
    let same : g ≡ y = cc in
    let rest : deeds_of ts ≡ before ++ d ∷ after = cc in
    let c : CutAt ts before d = cut_at ts before d after rest in
    record { first = Does g ∷ c.first; second = c.second; is = ap (λ z. Does g ∷ z) c.is; front = ap (λ z. z ∷ deeds_of c.first) same ∙ ap (λ z. y ∷ z) c.front }
cut_at (Renewed p list ∷ ts) before d after e =
    let c : CutAt ts before d = cut_at ts before d after e in
    record { first = Renewed p list ∷ c.first; second = c.second; is = ap (λ z. Renewed p list ∷ z) c.is; front = c.front }

-- ---- what deeds give

contains_later : {A : Type 0} (y : A) (xs : List A) (x : A) → Contains xs x → Contains (y ∷ xs) x
contains_later y xs x (k, l, e) = (suc k, omega (arith, l), e)

given_by : {A : Type 0} (of : Deed → List A) (ds : List Deed) (d : Deed) (x : A) → of d ≡ x ∷ [] → Contains ds d → Contains (flat_map of ds) x
given_by {A} of ds d x is there =
    let at = place_of ds d there in
    let split : flat_map of ds ≡ flat_map of at.before ++ x ∷ flat_map of at.after =
    ap (flat_map of) at.is ∙ flat_map-append of at.before (d ∷ at.after) ∙ ap (λ (xs : List A). flat_map of at.before ++ (xs ++ flat_map of at.after)) is in
    subst (λ (xs : List A). Contains xs x) (sym split) (Contains-split (flat_map of at.before) (flat_map of at.after) x)

submitted_first : (q : ℕ) (what : What) (ds : List Deed) (c : Command) → (Contains (flat_map submitted_by ds) c → (p : ℕ) × Contains ds (deed_of p (Told (input.Submit c))))
    → Contains (submitted_by (deed_of q what) ++ flat_map submitted_by ds) c → (p : ℕ) × Contains (deed_of q what ∷ ds) (deed_of p (Told (input.Submit c)))
submitted_first q (Told (input.Submit d)) ds c more (zero, l, e) = (q, (0, omega arith, let same : d ≡ c = e in ap (λ x. deed_of q (Told (input.Submit x))) same))
submitted_first q (Told (input.Submit d)) ds c more (suc k, l, e) = let r = more (k, omega (arith, l), e) in (r.0, contains_later (deed_of q (Told (input.Submit d))) ds (deed_of r.0 (Told (input.Submit c))) r.1)
submitted_first q what ds c more h = let r = more h in (r.0, contains_later (deed_of q what) ds (deed_of r.0 (Told (input.Submit c))) r.1)

submitted_in : (ds : List Deed) (c : Command) → Contains (flat_map submitted_by ds) c → (p : ℕ) × Contains ds (deed_of p (Told (input.Submit c)))
submitted_in [] c (k, l, e) = absurd (omega (arith, l))
submitted_in (d ∷ ds) c h = submitted_first d.node d.what ds c (submitted_in ds c) h

-- ---- one list

module _ (n : ℕ) (ts : List Turn) (h : AreTurns n ts) where
  -- the world at the end
  whole : TookAll n ts nothing_done empty_world
  whole = take_all n ts nothing_done empty_world (starts_alike n) h

  -- and at a moment
  at_moment : (first second : List Turn) → ts ≡ first ++ second → TookAll n first nothing_done empty_world
  at_moment first second e = take_all n first nothing_done empty_world (starts_alike n) (turns_front n first second nothing_done (subst (AreTurns n) e h)).0

  wire_is : (after_turns n ts nothing_done).wire ≡ flat_map sent_by (deeds_of ts)
  wire_is = turns_wire n ts nothing_done

  list : List Command
  list = (decided_list n (after_turns n ts nothing_done).wire).0

  decided : IsDecidedList n (after_turns n ts nothing_done).wire (decided_list n (after_turns n ts nothing_done).wire).0
  decided = (decided_list n (after_turns n ts nothing_done).wire).1

  -- what is on the wire at a moment is there at the end
  wire_grows : (first second : List Turn) → ts ≡ first ++ second → (m : Message) → Contains (after_turns n first nothing_done).wire m → Contains (after_turns n ts nothing_done).wire m
  wire_grows first second e m c =
      let more : (after_turns n ts nothing_done).wire ≡ (after_turns n first nothing_done).wire ++ flat_map sent_by (deeds_of second) =
      ap (λ z. (after_turns n z nothing_done).wire) e ∙ ap (λ (v : Lives). v.wire) (turns_append n first second nothing_done) ∙ turns_wire n second (after_turns n first nothing_done) in
      subst (λ ms. Contains ms m) (sym more) (Contains-append_left (after_turns n first nothing_done).wire (flat_map sent_by (deeds_of second)) m c)

  chosen_later : (first second : List Turn) → ts ≡ first ++ second → (i : ℕ) (u : Command) → IsChosen n (after_turns n first nothing_done).wire i u → IsChosen n (after_turns n ts nothing_done).wire i u
  chosen_later first second e i u c = chosen_grows n (after_turns n first nothing_done).wire (after_turns n ts nothing_done).wire (wire_grows first second e) i u c

  told_at : (first second : List Turn) (e : ts ≡ first ++ second) (p : ℕ) (q : RequestNo) (reply : Reply) → Contains (deeds_of first) (deed_of p (Acked q reply)) → Contains (at_moment first second e).world.trace (Acknowledged p q reply)
  told_at first second e p q reply there = subst (λ xs. Contains xs (Acknowledged p q reply)) (sym (at_moment first second e).told) (given_by told_by (deeds_of first) (deed_of p (Acked q reply)) (Acknowledged p q reply) refl there)

  -- what a start finds: the decided prefix that a crash left
  record Finds (before : List Deed) (p : ℕ) (promise : List Entry) (next : ℕ) : Type 0 where
    at : CutAt ts before (deed_of p (Up promise next))
    count : ℕ
    same : decided_from 0 promise ≡ decided_prefix (settled (at_moment at.first (Does (deed_of p (Up promise next)) ∷ at.second) at.is).world p count)

  finds : (before after : List Deed) (p : ℕ) (promise : List Entry) (next : ℕ) → deeds_of ts ≡ before ++ deed_of p (Up promise next) ∷ after → Finds before p promise next
  finds before after p promise next e = record { at = c; count = found.0; same = ap (decided_from 0) found.3 ∙ same_prefix ((life c).marked ++ take found.0 (life c).unmarked) ∙ sym (shifted_prefix n p _ _ left) }
    where
      c : CutAt ts before (deed_of p (Up promise next))
      c = cut_at ts before (deed_of p (Up promise next)) after e

      life : CutAt ts before (deed_of p (Up promise next)) → Life
      life z = (after_turns n z.first nothing_done).life p

      may : MayTurn n (after_turns n c.first nothing_done) (Does (deed_of p (Up promise next)))
      may = (turns_front n c.first (Does (deed_of p (Up promise next)) ∷ c.second) nothing_done (subst (AreTurns n) c.is h)).1.0

      found : FindsItsFacts ((after_turns n c.first nothing_done).life p) promise next
      found = may.1

      moment : TookAll n c.first nothing_done empty_world
      moment = at_moment c.first (Does (deed_of p (Up promise next)) ∷ c.second) c.is

      left : IsShifted n p (settled moment.world p found.0) (((after_turns n c.first nothing_done).life p).marked ++ take found.0 ((after_turns n c.first nothing_done).life p).unmarked)
      left =
          let D = down_is n p ((after_turns n c.first nothing_done).life p) moment.world may.0.1 (moment.alike.lives p) in
          left_shift n p ((after_turns n c.first nothing_done).life p) moment.world found.0 D.0 D.1

  -- what was decided by a moment begins the list
  left_begins : (first second : List Turn) (e : ts ≡ first ++ second) (p count : ℕ) → Begins (decided_prefix (settled (at_moment first second e).world p count)) (decided_list n (after_turns n ts nothing_done).wire).0
  left_begins first second e p count =
      let m : TookAll n first nothing_done empty_world = at_moment first second e in
      chosen_begins n (after_turns n ts nothing_done) whole.world whole.alike (decided_prefix (settled m.world p count)) (decided_list n (after_turns n ts nothing_done).wire).0
      (λ i u x. chosen_later first second e i u (left_chosen n (after_turns n first nothing_done) m.world m.alike p count i u x)) decided

  -- and so does the decided list of a moment
  list_begins : (first second : List Turn) → ts ≡ first ++ second → Begins (decided_list n (after_turns n first nothing_done).wire).0 (decided_list n (after_turns n ts nothing_done).wire).0
  list_begins first second e = chosen_begins n (after_turns n ts nothing_done) whole.world whole.alike (decided_list n (after_turns n first nothing_done).wire).0 (decided_list n (after_turns n ts nothing_done).wire).0
      (λ i u x. chosen_later first second e i u ((decided_list n (after_turns n first nothing_done).wire).1.chosen i u x)) decided

  -- a decision that was sent is of a chosen command
  sent_chosen : (p i : ℕ) (m : Message) (u : Command) → Contains (deeds_of ts) (deed_of p (Sent m)) → m.body ≡ Decision i u → IsChosen n (after_turns n ts nothing_done).wire i u
  sent_chosen p i m u there e = decision_chosen n (after_turns n ts nothing_done) whole.world whole.alike m i u
      (subst (λ ms. Contains ms m) (sym wire_is) (given_by sent_by (deeds_of ts) (deed_of p (Sent m)) m refl there)) e

  in_real_time : (before after : List Deed) → deeds_of ts ≡ before ++ after → (p : ℕ) (q : RequestNo) (reply : Reply) → Contains before (deed_of p (Acked q reply))
      → (u : Command) → ((at : ℕ) → Contains before (deed_of at (Told (input.Submit u))) → ⊥)
      → (k : ℕ) → slice_get (decided_list n (after_turns n ts nothing_done).wire).0 k ≡ Some u → reply_of (take k (decided_list n (after_turns n ts nothing_done).wire).0) q ≡ Some reply
  in_real_time before after e p q reply there u new k at =
      let c : Cut ts before after = cut ts before after e in
      let m : TookAll n c.first nothing_done empty_world = at_moment c.first c.second c.is in
      let v : Lives = after_turns n c.first nothing_done in
      let front = decided_list n v.wire in
      let b : Begins front.0 (decided_list n (after_turns n ts nothing_done).wire).0 = list_begins c.first c.second c.is in
      stands_behind front.0 (decided_list n (after_turns n ts nothing_done).wire).0 u k q reply
      (subst (λ z. take (length front.0) z ≡ front.0) b.is (take_at front.0 b.rest (length front.0) refl))
      (list_replies n v m.world m.alike front.0 front.1 p q reply (told_at c.first c.second c.is p q reply (subst (λ ds. Contains ds (deed_of p (Acked q reply))) (sym c.front) there)))
      (λ x.
      let s = submitted_in before u (subst (λ ds. Contains (flat_map submitted_by ds) u) c.front (subst (λ cs. Contains cs u) m.submitted (list_submitted n v m.world m.alike front.0 front.1 u x))) in
      new s.0 s.1)
      at

  pub turns_agree : DoTurnsAgree n ts
  turns_agree = record {
    list = (decided_list n (after_turns n ts nothing_done).wire).0;
    decided = subst (λ ms. IsDecidedList n ms (decided_list n (after_turns n ts nothing_done).wire).0) wire_is decided;
    submitted = λ c there. submitted_in (deeds_of ts) c (subst (λ cs. Contains cs c) whole.submitted (list_submitted n (after_turns n ts nothing_done) whole.world whole.alike (decided_list n (after_turns n ts nothing_done).wire).0 decided c there));
    restarts = λ before after p promise next e.
        let f : Finds before p promise next = finds before after p promise next e in
        let b = left_begins f.at.first (Does (deed_of p (Up promise next)) ∷ f.at.second) f.at.is p f.count in
        (b.rest, sym b.is ∙ ap (λ z. z ++ b.rest) (sym f.same));
    nothing_acknowledged_is_lost = λ before after p promise next e q reply there.
        let f : Finds before p promise next = finds before after p promise next e in
        let m : TookAll n f.at.first nothing_done empty_world = at_moment f.at.first (Does (deed_of p (Up promise next)) ∷ f.at.second) f.at.is in
        subst (λ z. reply_of z q ≡ Some reply) (sym f.same)
        (left_replies n (after_turns n f.at.first nothing_done) m.world m.alike p f.count q reply
        (told_at f.at.first (Does (deed_of p (Up promise next)) ∷ f.at.second) f.at.is p q reply (subst (λ ds. Contains ds (deed_of p (Acked q reply))) (sym f.at.front) there)));
    replies = λ p q reply there. list_replies n (after_turns n ts nothing_done) whole.world whole.alike (decided_list n (after_turns n ts nothing_done).wire).0 decided p q reply
        (subst (λ xs. Contains xs (Acknowledged p q reply)) (sym whole.told) (given_by told_by (deeds_of ts) (deed_of p (Acked q reply)) (Acknowledged p q reply) refl there));
    decisions = λ p q i m k v w here there e f. one_here n (after_turns n ts nothing_done) whole.world whole.alike i v w (sent_chosen p i m v here e) (sent_chosen q i k w there f);
    real_time = in_real_time;
  }

-- ---- histories in which no disk is made anew

-- deeds as turns
abbrev pub does_all : List Deed → List Turn
does_all [] = []
does_all (d ∷ ds) = Does d ∷ does_all ds

pub does_deeds : (ds : List Deed) → deeds_of (does_all ds) ≡ ds
does_deeds [] = refl
does_deeds (d ∷ ds) = ap (λ z. d ∷ z) (does_deeds ds)

pub does_turns : (n : ℕ) (ds : List Deed) (v : Lives) → IsHistoryFrom n v ds → OpensWellFrom n v ds → AreTurnsFrom n v (does_all ds)
does_turns n [] v h o = tt
does_turns n (d ∷ ds) v h o = ((h.0, o.0), does_turns n ds (after_deed n d v) h.1 o.1)

pub agrees : (n : ℕ) (deeds : List Deed) → IsHistory n deeds → OpensWell n deeds → AgreesWithOneList n deeds
agrees n deeds h o = subst (AgreesWithOneList n) (does_deeds deeds) (turns_agree n (does_all deeds) (does_turns n deeds nothing_done h o))

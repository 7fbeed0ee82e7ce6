-- Each step keeps the rule, and tells what it should.
use Rattle.std.proofs.Common.{◌≡◌, ◌≢◌, ◌⊎◌, ℕ, zero, suc, ◌+◌, ◌==◌, ◌≤◌, ◌<◌, Bool, true, false, true≢false, inl, inr, List, [], ◌∷◌, ◌++◌, if◌then◌else◌, length, set, refl, sym, ap, ◌∙◌, subst, ⊎_elim, arith, append_assoc}
use Rattle.std.proofs.lemmas.List.{append-nil}
use Rattle.std.proofs.lemmas.Bool.Decides.{nat_tests}
use mathlib.Core.Option.{some, some-ne-none, some-injective}
use mathlib.Core.List.{IsPrefix}
use lib.ListN.{get_elem?}
use Rattle.crossbeam_queue.specs.Fifo.{Pushes, Pops, Forks, Merges, Learns}
use Rattle.crossbeam_queue.proofs.Lists.{at_set}
use Rattle.rr_window.specs.declared.view.View.{View}
use Rattle.rr_window.specs.InOrder.{put_by, messages, Fits, ends_in, times, Each, InOrder, Puts, Takes, Waits, OneQueue, one_more, new_end, first_taker, first_of, rest_of, IsOne, IsTwo, PutsIn, TakesIn, WaitsIn, MeetIn, view_of}

module _ {T : Type 0} where
  put_own : (end : ℕ) (all : List (ℕ × T)) (x : T) → put_by end (all ++ (end, x) ∷ []) ≡ put_by end all ++ x ∷ []
  put_own end [] x = let same : (end == end) ≡ true = grind (arith, nat_tests) in rw same refl
  put_own end (p ∷ ps) x = one (put_own end ps x) (p.0 == end) refl
    where
      one : put_by end (ps ++ (end, x) ∷ []) ≡ put_by end ps ++ x ∷ [] → (b : Bool) → (p.0 == end) ≡ b → put_by end ((p ∷ ps) ++ (end, x) ∷ []) ≡ put_by end (p ∷ ps) ++ x ∷ []
      one more true e = rw e (ap (λ l. p.1 ∷ l) more)
      one more false e = rw e more

  put_other : (end : ℕ) (all : List (ℕ × T)) (by : ℕ) (x : T) → by ≢ end → put_by end (all ++ (by, x) ∷ []) ≡ put_by end all
  put_other end [] by x n = let apart : (by == end) ≡ false = grind (arith, nat_tests) in rw apart refl
  put_other end (p ∷ ps) by x n = one (put_other end ps by x n) (p.0 == end) refl
    where
      one : put_by end (ps ++ (by, x) ∷ []) ≡ put_by end ps → (b : Bool) → (p.0 == end) ≡ b → put_by end ((p ∷ ps) ++ (by, x) ∷ []) ≡ put_by end (p ∷ ps)
      one more true e = rw e (ap (λ l. p.1 ∷ l) more)
      one more false e = rw e more

  messages_more : (all : List (ℕ × T)) (p : ℕ × T) → messages (all ++ p ∷ []) ≡ messages all ++ p.1 ∷ []
  messages_more [] p = refl
  messages_more (q ∷ qs) p = ap (λ l. q.1 ∷ l) (messages_more qs p)

  both_each : (F : View T → Type 0) (xs ys : List (View T)) → Each F xs → Each F ys → Each F (xs ++ ys)
  both_each F [] ys a b = b
  both_each F (x ∷ xs) ys a b = (a.0, both_each F xs ys a.1 b)

  front_each : (F : View T → Type 0) (xs ys : List (View T)) → Each F (xs ++ ys) → Each F xs
  front_each F [] ys a = tt
  front_each F (x ∷ xs) ys a = (a.0, front_each F xs ys a.1)

  back_each : (F : View T → Type 0) (xs ys : List (View T)) → Each F (xs ++ ys) → Each F ys
  back_each F [] ys a = a
  back_each F (x ∷ xs) ys a = back_each F xs ys a.1

  times_both : (n : ℕ) (xs ys : List (View T)) → times n (xs ++ ys) ≡ times n xs + times n ys
  times_both n [] ys = omega arith
  times_both n (x ∷ xs) ys = let h = times_both n xs ys in omega (arith, h)

  times_own : (v : View T) (vs : List (View T)) → times v.number (v ∷ vs) ≡ suc (times v.number vs)
  times_own v vs = let same : (v.number == v.number) ≡ true = grind (arith, nat_tests) in rw same (omega arith)

  times_other : (n : ℕ) (v : View T) (vs : List (View T)) → v.number ≢ n → times n (v ∷ vs) ≡ times n vs
  times_other n v vs ne = let apart : (v.number == n) ≡ false = grind (arith, nat_tests) in rw apart (omega arith)

  -- none of these ends has the number, so each is another one
  change : (F G : View T → Type 0) (n : ℕ) → ((u : View T) → u.number ≢ n → F u → G u) → (xs : List (View T)) → times n xs ≡ 0 → Each F xs → Each G xs
  change F G n f [] none a = tt
  change F G n f (u ∷ us) none a =
      let own = times_own u us in
      let ne : u.number ≢ n = λ e. let same : times u.number (u ∷ us) ≡ times n (u ∷ us) = ap (λ k. times k (u ∷ us)) e in absurd (omega (arith, none, own, same)) in
      (f u ne a.0, change F G n f us (sym (times_other n u us ne) ∙ none) a.1)

  -- ends with lower numbers
  none_made : (all : List (ℕ × T)) (got : List T) (ends n : ℕ) → ends ≤ n → (xs : List (View T)) → Each (Fits all got ends) xs → times n xs ≡ 0
  none_made all got ends n le [] a = refl
  none_made all got ends n le (u ∷ us) a = let made = a.0.made in times_other n u us (λ e. absurd (omega (arith, e, made, le))) ∙ none_made all got ends n le us a.1

  record Cut (hands : List (List (View T))) (pass : ℕ) (h : List (View T)) : Type 0 where
    pub before : List (View T)
    pub after : List (View T)
    pub now : ends_in hands ≡ before ++ (h ++ after)
    pub changed : (k : List (View T)) → ends_in (set hands pass k) ≡ before ++ (k ++ after)

  cut : (hands : List (List (View T))) (pass : ℕ) (h : List (View T)) → get_elem? hands pass ≡ some h → Cut hands pass h
  cut [] pass h e = absurd (some-ne-none h (sym e))
  cut (g ∷ gs) zero h e = record { before = []; after = ends_in gs; now = ap (λ q. q ++ ends_in gs) (some-injective g h e); changed = λ k. refl }
  cut (g ∷ gs) (suc pass) h e =
      let c = cut gs pass h e in
      record {
        before = g ++ c.before;
        after = c.after;
        now = ap (λ q. g ++ q) c.now ∙ sym (append_assoc g c.before (h ++ c.after));
        changed = λ k. ap (λ q. g ++ q) (c.changed k) ∙ sym (append_assoc g c.before (k ++ c.after));
      }

  ends_more : (hands : List (List (View T))) (h : List (View T)) → ends_in (hands ++ h ∷ []) ≡ ends_in hands ++ h
  ends_more [] h = append-nil h
  ends_more (g ∷ gs) h = ap (λ q. g ++ q) (ends_more gs h) ∙ sym (append_assoc g (ends_in gs) h)

  -- one end among the others
  record Among (F : View T → Type 0) (hands : List (List (View T))) (pass : ℕ) (v : View T) : Type 0 where
    pub at : Cut hands pass (v ∷ [])
    pub fit_before : Each F at.before
    pub fit : F v
    pub fit_after : Each F at.after
    pub none_before : times v.number at.before ≡ 0
    pub none_after : times v.number at.after ≡ 0

  among : (F : View T → Type 0) (hands : List (List (View T))) (pass : ℕ) (v : View T) → get_elem? hands pass ≡ some (v ∷ []) → Each F (ends_in hands) → ((n : ℕ) → times n (ends_in hands) ≤ 1) → Among F hands pass v
  among F hands pass v e fit apart =
      let c = cut hands pass (v ∷ []) e in
      let all : Each F (c.before ++ v ∷ c.after) = subst (Each F) c.now fit in
      let back = back_each F c.before (v ∷ c.after) all in
      let count : times v.number (ends_in hands) ≡ times v.number c.before + times v.number (v ∷ c.after) = ap (times v.number) c.now ∙ times_both v.number c.before (v ∷ c.after) in
      let own = times_own v c.after in
      let most = apart v.number in
      record { at = c; fit_before = front_each F c.before (v ∷ c.after) all; fit = back.0; fit_after = back.1; none_before = omega (arith, count, own, most); none_after = omega (arith, count, own, most) }

  -- the end has changed and kept its number
  others_too : (F G : View T → Type 0) (hands : List (List (View T))) (pass : ℕ) (v w : View T) → Among F hands pass v → G w → ((u : View T) → u.number ≢ v.number → F u → G u) → Each G (ends_in (set hands pass (w ∷ [])))
  others_too F G hands pass v w a mine f =
      subst (Each G) (sym (a.at.changed (w ∷ []))) (both_each G a.at.before (w ∷ a.at.after) (change F G v.number f a.at.before a.none_before a.fit_before) (mine, change F G v.number f a.at.after a.none_after a.fit_after))

  same_times : (hands : List (List (View T))) (pass : ℕ) (v w : View T) → Cut hands pass (v ∷ []) → w.number ≡ v.number → (n : ℕ) → times n (ends_in (set hands pass (w ∷ []))) ≡ times n (ends_in hands)
  same_times hands pass v w c same n =
      let one : times n (w ∷ c.after) ≡ times n (v ∷ c.after) = ap (λ (k : ℕ). (if k == n then 1 else 0) + times n c.after) same in
      ap (times n) (c.changed (w ∷ [])) ∙ times_both n c.before (w ∷ c.after) ∙ ap (λ (k : ℕ). times n c.before + k) one ∙ sym (times_both n c.before (v ∷ c.after)) ∙ sym (ap (times n) c.now)

  pub begins : InOrder {T = T} [] ((first_taker ∷ []) ∷ [])
  begins = record { all = []; got = []; ends = 1; order = refl; fit = (record { known = ([], refl); put = refl; made = omega arith; taken = λ _. (refl, refl, refl) }, tt); apart = one; unmade = λ n le. refl }
    where
      by : (n : ℕ) (b : Bool) → (0 == n) ≡ b → times {T = T} n (first_taker ∷ []) ≤ 1
      by n true e = rw e (omega arith)
      by n false e = rw e (omega arith)

      one : (n : ℕ) → times {T = T} n (first_taker ∷ []) ≤ 1
      one n = by n (0 == n) refl

  pub puts : (room pass : ℕ) (h : List (View T)) (x : T) → IsOne h → Pushes InOrder room pass h x (PutsIn h x)
  puts room pass h x one items hands _ r at =
      let v = first_of h in
      let all = r.all in
      let all' = all ++ (v.number, x) ∷ [] in
      let F : View T → Type 0 = Fits all r.got r.ends in
      let G : View T → Type 0 = Fits all' r.got r.ends in
      let a = among F hands pass v (at ∙ ap some one) r.fit r.apart in
      let made = a.fit.made in
      let w : View T = view_of v.takes v.number v.ends all' (v.put ++ x ∷ []) v.got in
      let own : put_by v.number all' ≡ v.put ++ x ∷ [] = put_own v.number all x ∙ ap (λ l. l ++ x ∷ []) a.fit.put in
      let split : all' ≡ (v.known ++ a.fit.known.0) ++ (v.number, x) ∷ [] = ap (λ l. l ++ (v.number, x) ∷ []) (sym a.fit.known.1) in
      let mine : G w = record { known = ([], append-nil all'); put = own; made = made; taken = a.fit.taken } in
      let others : (u : View T) → u.number ≢ v.number → F u → G u = λ u ne f. record {
        known = (f.known.0 ++ (v.number, x) ∷ [], sym (append_assoc u.known f.known.0 ((v.number, x) ∷ [])) ∙ ap (λ l. l ++ (v.number, x) ∷ []) f.known.1);
        put = put_other u.number all v.number x (λ q. ne (sym q)) ∙ f.put;
        made = f.made;
        taken = f.taken;
      } in (
        w ∷ [],
        record {
          all = all';
          got = r.got;
          ends = r.ends;
          order = messages_more all (v.number, x) ∙ ap (λ l. l ++ x ∷ []) r.order ∙ append_assoc r.got items (x ∷ []);
          fit = others_too F G hands pass v w a mine others;
          apart = λ n. let s = same_times hands pass v w a.at refl n in let m = r.apart n in omega (arith, s, m);
          unmade = λ n le. put_other n all v.number x (λ q. absurd (omega (arith, q, made, le))) ∙ r.unmade n le;
        },
        (refl, record { others = a.fit.known.0; known = split; put = refl; own = own; rest = (refl, refl, refl, refl) }),
      )

  pub takes : (pass : ℕ) (h : List (View T)) → IsOne h → (first_of h).takes ≡ true → Pops InOrder pass h (TakesIn h)
  takes pass h one may x items hands r at =
      let v = first_of h in
      let all = r.all in
      let got' = v.got ++ x ∷ [] in
      let F : View T → Type 0 = Fits all r.got r.ends in
      let G : View T → Type 0 = Fits all got' r.ends in
      let a = among F hands pass v (at ∙ ap some one) r.fit r.apart in
      let own = a.fit.taken may in
      let is : v.got ≡ r.got = own.1 in
      let w : View T = view_of v.takes v.number v.ends all v.put got' in
      let now : messages all ≡ got' ++ items = r.order ∙ sym (append_assoc r.got (x ∷ []) items) ∙ ap (λ l. (l ++ x ∷ []) ++ items) (sym is) in
      let mine : G w = record { known = ([], append-nil all); put = a.fit.put; made = a.fit.made; taken = λ t. (own.0, refl, own.2) } in
      let others : (u : View T) → u.number ≢ v.number → F u → G u = λ u ne f. record { known = f.known; put = f.put; made = f.made; taken = λ t. absurd (ne ((f.taken t).0 ∙ sym own.0)) } in (
        w ∷ [],
        record {
          all = all;
          got = got';
          ends = r.ends;
          order = now;
          fit = others_too F G hands pass v w a mine others;
          apart = λ n. let s = same_times hands pass v w a.at refl n in let m = r.apart n in omega (arith, s, m);
          unmade = r.unmade;
        },
        (refl, record { got = refl; order = (items, sym now); known = a.fit.known; rest = (refl, refl, refl, refl) }),
      )

  pub learns : (pass : ℕ) (h : List (View T)) → IsOne h → Learns InOrder pass h (WaitsIn h)
  learns pass h one items hands r at =
      let v = first_of h in
      let a = among (Fits r.all r.got r.ends) hands pass v (at ∙ ap some one) r.fit r.apart in
      (r.all, r.got, a.fit.known, r.order, λ t. (a.fit.taken t).1)

  new_times : (n k : ℕ) (known : List (ℕ × T)) → times n (view_of false k 0 known [] [] ∷ []) ≡ (if k == n then 1 else 0) + 0
  new_times n k known = refl

  -- the new number is that of no other end
  apart_more : (all : List (ℕ × T)) (got : List T) (ends : ℕ) (views : List (View T)) → Each (Fits all got ends) views → (n : ℕ) → times n views ≤ 1 → (b : Bool) → (ends == n) ≡ b → times n views + ((if ends == n then 1 else 0) + 0) ≤ 1
  apart_more all got ends views fit n most true e =
      let here : ends ≡ n = grind (arith, nat_tests) in
      let none : times n views ≡ 0 = none_made all got ends n (omega (arith, here)) views fit in
      rw e (omega (arith, none))
  apart_more all got ends views fit n most false e = rw e (omega (arith, most))

  pub forks : (pass : ℕ) (h : List (View T)) → IsOne h → (first_of h).takes ≡ true → Forks InOrder pass h (one_more (first_of h) ∷ []) (new_end (first_of h) ∷ [])
  forks pass h one may items hands r at =
      let v = first_of h in
      let all = r.all in
      let F : View T → Type 0 = Fits all r.got r.ends in
      let G : View T → Type 0 = Fits all r.got (suc r.ends) in
      let a = among F hands pass v (at ∙ ap some one) r.fit r.apart in
      let own = a.fit.taken may in
      let made = a.fit.made in
      let l : View T = one_more v in
      let fresh : View T = new_end v in
      let is : v.ends ≡ r.ends = own.2 in
      let left : G l = record { known = a.fit.known; put = a.fit.put; made = omega (arith, made); taken = λ t. (own.0, own.1, ap suc is) } in
      let right : G fresh = record { known = a.fit.known; put = ap (λ (n : ℕ). put_by n all) is ∙ r.unmade r.ends (omega arith); made = omega (arith, is); taken = λ t. absurd (true≢false (sym t)) } in
      let others : (u : View T) → u.number ≢ v.number → F u → G u = λ u ne f. record { known = f.known; put = f.put; made = (let m = f.made in omega (arith, m)); taken = λ t. absurd (ne ((f.taken t).0 ∙ sym own.0)) } in
      let hands' = set hands pass (l ∷ []) in
      let whole : ends_in (hands' ++ (fresh ∷ []) ∷ []) ≡ ends_in hands' ++ fresh ∷ [] = ends_more hands' (fresh ∷ []) in
      record {
        all = all;
        got = r.got;
        ends = suc r.ends;
        order = r.order;
        fit = subst (Each G) (sym whole) (both_each G (ends_in hands') (fresh ∷ []) (others_too F G hands pass v l a left others) (right, tt));
        apart = λ n.
            let sum : times n (ends_in (hands' ++ (fresh ∷ []) ∷ [])) ≡ times n (ends_in hands) + ((if r.ends == n then 1 else 0) + 0) =
            ap (times n) whole ∙ times_both n (ends_in hands') (fresh ∷ []) ∙ ap (λ (k : ℕ). k + times n (fresh ∷ [])) (same_times hands pass v l a.at refl n) ∙ ap (λ (k : ℕ). times n (ends_in hands) + ((if k == n then 1 else 0) + 0)) is in
            subst (λ (k : ℕ). k ≤ 1) (sym sum) (apart_more all r.got r.ends (ends_in hands) r.fit n (r.apart n) (r.ends == n) refl);
        unmade = λ n le. r.unmade n (omega (arith, le));
      }

  -- the views of one pass go to another
  pub merges : (pass : ℕ) (h : List (View T)) (other : ℕ) (g : List (View T)) → Merges InOrder pass h other g (h ++ g) []
  merges pass h other g items hands r at apart there =
      let F : View T → Type 0 = Fits r.all r.got r.ends in
      let c = cut hands pass h at in
      let d = cut (set hands pass (h ++ g)) other g there in
      let was : get_elem? hands other ≡ some g = ⊎_elim (λ t. absurd (apart t.0)) (λ t. t.1) (at_set hands pass other (h ++ g) g there) in
      let o = cut hands other g was in
      let of_g : Each F g = front_each F g o.after (back_each F o.before (g ++ o.after) (subst (Each F) o.now r.fit)) in
      let all : Each F (c.before ++ (h ++ c.after)) = subst (Each F) c.now r.fit in
      let rear = back_each F c.before (h ++ c.after) all in
      let joined : Each F (c.before ++ ((h ++ g) ++ c.after)) = both_each F c.before ((h ++ g) ++ c.after) (front_each F c.before (h ++ c.after) all)
      (both_each F (h ++ g) c.after (both_each F h g (front_each F h c.after rear) of_g) (back_each F h c.after rear)) in
      let same : c.before ++ ((h ++ g) ++ c.after) ≡ d.before ++ (g ++ d.after) = sym (c.changed (h ++ g)) ∙ d.now in
      let parts : Each F (d.before ++ (g ++ d.after)) = subst (Each F) same joined in
      record {
        all = r.all;
        got = r.got;
        ends = r.ends;
        order = r.order;
        fit = subst (Each F) (sym (d.changed [])) (both_each F d.before d.after (front_each F d.before (g ++ d.after) parts) (back_each F g d.after (back_each F d.before (g ++ d.after) parts)));
        apart = λ n.
            let one = ap (times n) c.now ∙ times_both n c.before (h ++ c.after) in
            let one_in = times_both n h c.after in
            let two = sym (times_both n c.before ((h ++ g) ++ c.after)) ∙ ap (times n) same ∙ times_both n d.before (g ++ d.after) in
            let two_in = times_both n (h ++ g) c.after in
            let two_of = times_both n h g in
            let two_at = times_both n g d.after in
            let three = ap (times n) (d.changed []) ∙ times_both n d.before d.after in
            let most = r.apart n in
            omega (arith, one, one_in, two, two_in, two_of, two_at, three, most);
        unmade = r.unmade;
      }

  parted : (h : List (View T)) → IsTwo h → h ≡ first_of h ∷ rest_of h
  parted [] e = absurd (cc e)
  parted (v ∷ vs) e = refl

  -- and come apart
  pub parts : (pass : ℕ) (h : List (View T)) → IsTwo h → Forks InOrder pass h (first_of h ∷ []) (rest_of h)
  parts pass h two items hands r at =
      let F : View T → Type 0 = Fits r.all r.got r.ends in
      let v = first_of h in
      let k = rest_of h in
      let c = cut hands pass (v ∷ k) (at ∙ ap some (parted h two)) in
      let hands' = set hands pass (v ∷ []) in
      let all : Each F (c.before ++ (v ∷ (k ++ c.after))) = subst (Each F) c.now r.fit in
      let rear = back_each F c.before (v ∷ (k ++ c.after)) all in
      let front = front_each F c.before (v ∷ (k ++ c.after)) all in
      let left : Each F (ends_in hands') = subst (Each F) (sym (c.changed (v ∷ []))) (both_each F c.before (v ∷ c.after) front (rear.0, back_each F k c.after rear.1)) in
      record {
        all = r.all;
        got = r.got;
        ends = r.ends;
        order = r.order;
        fit = subst (Each F) (sym (ends_more hands' k)) (both_each F (ends_in hands') k left (front_each F k c.after rear.1));
        apart = λ n.
            let one = ap (times n) c.now ∙ times_both n c.before ((v ∷ k) ++ c.after) in
            let one_in = times_both n (v ∷ k) c.after in
            let one_of = times_both n (v ∷ []) k in
            let two = ap (times n) (ends_more hands' k) ∙ times_both n (ends_in hands') k in
            let two_in = ap (times n) (c.changed (v ∷ [])) ∙ times_both n c.before ((v ∷ []) ++ c.after) in
            let two_of = times_both n (v ∷ []) c.after in
            let most = r.apart n in
            omega (arith, one, one_in, one_of, two, two_in, two_of, most);
        unmade = r.unmade;
      }

  pub meets : (pass : ℕ) (h : List (View T)) → IsTwo h → Learns InOrder pass h (MeetIn h)
  meets pass h two items hands r at =
      let F : View T → Type 0 = Fits r.all r.got r.ends in
      let v = first_of h in
      let w = first_of (rest_of h) in
      let c = cut hands pass (v ∷ w ∷ []) (at ∙ ap some two) in
      let fit : Each F (v ∷ w ∷ c.after) = back_each F c.before (v ∷ w ∷ c.after) (subst (Each F) c.now r.fit) in
      let ne : v.number ≢ w.number = λ e.
      let count = ap (times v.number) c.now ∙ times_both v.number c.before (v ∷ w ∷ c.after) in
      let first = times_own v (w ∷ c.after) in
      let second = times_own w c.after in
      let same : times v.number (w ∷ c.after) ≡ times w.number (w ∷ c.after) = ap (λ (n : ℕ). times n (w ∷ c.after)) e in
      let most = r.apart v.number in
      absurd (omega (arith, count, first, second, same, most)) in
      let f = fit.0 in
      let g = fit.1.0 in (
        (λ t. record { all = r.all; known = (f.known, g.known); got = (items, ap (λ l. l ++ items) (f.taken t).1 ∙ sym r.order); put = (f.put, g.put); apart = λ e. ne (sym e) }),
        (λ t. record { all = r.all; known = (g.known, f.known); got = (items, ap (λ l. l ++ items) (g.taken t).1 ∙ sym r.order); put = (g.put, f.put); apart = ne }),
      )

  pub two : (h hs gs : List (View T)) → h ≡ hs ++ gs → IsOne hs → IsOne gs → IsTwo h
  two h hs gs e a b = subst IsTwo (sym (e ∙ ap (λ q. q ++ gs) a ∙ ap (λ q. first_of hs ∷ q) b)) refl

-- Readers of words and of texts, and how two make one.
use Rattle.std.proofs.Common.{◌≡◌, ℕ, ◌^◌, ◌<◌, ◌≤◌, List, ◌∷◌, ◌++◌, Option, Some, decimal, refl, ap, subst, ◌∙◌, sym, arith}
use Rattle.std.proofs.lemmas.Option.{same_Some}
use Rattle.rr_text.specs.Reading.{◌>>=◌, cut_at, node_at, number_at, small_at, set_at}
use Rattle.rr_text.specs.Words.{set_text}
use Rattle.rr_text.proofs.CutLemmas.{AtLeast, bind_some, cut_again, cut_takes}
use Rattle.rr_text.proofs.NumberLemmas.{node_again, node_takes, number_again, number_takes, small_again, small_takes, decimal_plain}
use Rattle.rr_text.proofs.WordReading.{AtLeast-weaken, set_again, set_takes, set_plain}
use Rattle.rr_text.proofs.EventReading.{joined}
use Rattle.rr_text.specs.TapeReading.{both_at}

-- what is read is printed so and in its range; what is printed is read again; and no byte of it is below k
pub record IsReader {A : Type 0} (k : ℕ) (read : List ℕ → Option A) (print : A → List ℕ) (Fits : A → Type 0) : Type 0 where
  pub takes : (t : List ℕ) (x : A) → read t ≡ Some x → (print x ≡ t) × Fits x
  pub again : (x : A) → Fits x → read (print x) ≡ Some x
  pub plain : (x : A) → Fits x → AtLeast k (print x)

-- a word is a text without a space
pub as_text : {A : Type 0} {read : List ℕ → Option A} {print : A → List ℕ} {Fits : A → Type 0} → IsReader 33 read print Fits → IsReader 32 read print Fits
as_text {print} r = record { takes = r.takes; again = r.again; plain = λ x fits. AtLeast-weaken 32 33 (print x) (omega arith) (r.plain x fits) }

-- a value that is made of what is read
pub made : {A B : Type 0} {k : ℕ} {read : List ℕ → Option A} {print : A → List ℕ} {Fits : A → Type 0} → IsReader k read print Fits → (make : A → B) (get : B → A) (print_2 : B → List ℕ) (Fits_2 : B → Type 0)
    → ((y : B) → make (get y) ≡ y) → ((x : A) → print_2 (make x) ≡ print x) → ((x : A) → Fits x → Fits_2 (make x)) → ((y : B) → Fits_2 y → Fits (get y)) → IsReader k (λ t. read t >>= λ x. Some (make x)) print_2 Fits_2
made {A} {B} {k} {read} {print} r make get print_2 Fits_2 back prints fits unfits =
    let printed : (y : B) → print_2 y ≡ print (get y) = λ y. ap print_2 (sym (back y)) ∙ prints (get y) in
    let some : B → Option B = λ y. Some y in
    record {
      takes = λ t y e.
          let x = bind_some (read t) (λ x. Some (make x)) y e in
          let u = r.takes t x.0 x.1 in
          subst (λ z. (print_2 z ≡ t) × Fits_2 z) (same_Some (make x.0) y x.2) (prints x.0 ∙ u.0, fits x.0 u.1);
      again = λ y h. rw (printed y, r.again (get y) (unfits y h)) (ap some (back y));
      plain = λ y h. subst (λ (w : List ℕ). AtLeast k w) (sym (printed y)) (r.plain (get y) (unfits y h));
    }

-- a value of a kind, which is made of what is read behind its word
pub taken_as : {A B : Type 0} {k : ℕ} {read : List ℕ → Option A} {print : A → List ℕ} {Fits : A → Type 0} → IsReader k read print Fits → (make : A → B) (print_2 : B → List ℕ) (Fits_2 : B → Type 0) (word : List ℕ)
    → ((x : A) → print_2 (make x) ≡ word ++ 32 ∷ print x) → ((x : A) → Fits x → Fits_2 (make x)) → (t : List ℕ) (y : B) → (read t >>= λ x. Some (make x)) ≡ Some y → (print_2 y ≡ word ++ 32 ∷ t) × Fits_2 y
taken_as {read} r make print_2 Fits_2 word prints fits t y e =
    let x = bind_some (read t) (λ x. Some (make x)) y e in
    let u = r.takes t x.0 x.1 in
    subst (λ z. (print_2 z ≡ word ++ 32 ∷ t) × Fits_2 z) (same_Some (make x.0) y x.2) (prints x.0 ∙ ap (λ (w : List ℕ). word ++ 32 ∷ w) u.0, fits x.0 u.1)

-- a word, a space and a text
pub beside : {A B : Type 0} {read : List ℕ → Option A} {print : A → List ℕ} {Fits : A → Type 0} {read_2 : List ℕ → Option B} {print_2 : B → List ℕ} {Fits_2 : B → Type 0}
    → IsReader 33 read print Fits → IsReader 32 read_2 print_2 Fits_2 → IsReader 32 (both_at read read_2) (λ x. print x.0 ++ 32 ∷ print_2 x.1) (λ x. Fits x.0 × Fits_2 x.1)
beside {A} {B} {read} {print} {Fits} {read_2} {print_2} {Fits_2} r s = record {
  takes = λ t x e.
      let w = bind_some (cut_at 32 t) (λ w. read w.0 >>= λ y. read_2 w.1 >>= λ z. Some (y, z)) x e in
      let y = bind_some (read w.0.0) (λ y. read_2 w.0.1 >>= λ z. Some (y, z)) x w.2 in
      let z = bind_some (read_2 w.0.1) (λ z. Some (y.0, z)) x y.2 in
      let first = r.takes w.0.0 y.0 y.1 in
      let second = s.takes w.0.1 z.0 z.1 in
      let made : A × B = (y.0, z.0) in
      let cut : t ≡ w.0.0 ++ 32 ∷ w.0.1 = cut_takes 32 t w.0.0 w.0.1 w.1 in
      let is : print y.0 ++ 32 ∷ print_2 z.0 ≡ t = ap (λ (v : List ℕ). v ++ 32 ∷ print_2 z.0) first.0 ∙ ap (λ (v : List ℕ). w.0.0 ++ 32 ∷ v) second.0 ∙ sym cut in
      subst (λ (p : A × B). (print p.0 ++ 32 ∷ print_2 p.1 ≡ t) × (Fits p.0 × Fits_2 p.1)) (same_Some made x z.2) (is, (first.1, second.1));
  again = λ x fits. rw (cut_again 32 33 (print x.0) (print_2 x.1) (omega arith) (r.plain x.0 fits.0), r.again x.0 fits.0, s.again x.1 fits.1) refl;
  plain = λ x fits. joined (print x.0) (print_2 x.1) (r.plain x.0 fits.0) (s.plain x.1 fits.1);
}

pub small_word : IsReader 33 small_at decimal (λ n. n < 2 ^ 32)
small_word = record { takes = small_takes; again = small_again; plain = λ n lt. decimal_plain n (omega (arith, lt)) }

pub number_word : IsReader 33 number_at decimal (λ n. n < 2 ^ 64)
number_word = record { takes = number_takes; again = number_again; plain = decimal_plain }

pub set_word : (n : ℕ) → n ≤ 7 → IsReader 33 (set_at n) set_text (λ s. s < 2 ^ n)
set_word n few = record { takes = set_takes n; again = λ s lt. set_again n s few lt; plain = λ s lt. set_plain s }

pub node_word : (n : ℕ) → n ≤ 7 → IsReader 33 (node_at n) decimal (λ p. p < n)
node_word n few = record { takes = λ w p e. node_takes n w p few e; again = λ p lt. node_again n p few lt; plain = λ p lt. decimal_plain p (omega (arith, lt)) }

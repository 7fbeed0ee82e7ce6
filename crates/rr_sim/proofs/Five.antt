-- The five lines of a device call.
use Rattle.std.proofs.Common.{◌≡◌, ℕ, List, [], ◌∷◌, ◌++◌, refl, sym, ◌∙◌, ap, subst}
use Rattle.rr_node.specs.Seats.{Seat, crashed}
use Rattle.rr_sim.specs.declared.ending.Ending.{Ending}
use Rattle.rr_sim.specs.declared.ending.Ending.TheVariants.{Open, Closed, Cut, Kept, Drawn}
use Rattle.rr_sim.specs.declared.sweeping.SweepLine.{SweepLine}
use Rattle.rr_sim.specs.Endings.{all_endings, cut_of, fill_of}
use Rattle.rr_sim.specs.Openings.{Opens}
use Rattle.rr_sim.specs.Sweeps.{AreCrashes}

-- the line of an ending
pub record IsLineOf (at p : ℕ) (seat : Seat) (w : ℕ) (e : Ending) (l : SweepLine) : Type 0 where
  pub line : l.line ≡ at
  pub ending : l.ending ≡ e
  pub restart : Opens p (crashed (cut_of e w) (cut_of e w) (fill_of e w) seat) l.restart

module _ (at p : ℕ) (seat : Seat) (w : ℕ) where
  one_more : (e : Ending) (es : List Ending) (l : SweepLine) (ls : List SweepLine) → IsLineOf at p seat w e l → AreCrashes at p seat w es ls → AreCrashes at p seat w (e ∷ es) (l ∷ ls)
  one_more e es l ls is more = (l.restart, ls, (λ i. record { line = is.line i; ending = is.ending i; restart = l.restart } ∷ ls), is.restart, more)

  pushed : (a b c d e : SweepLine) (none one two three four all : List SweepLine) → none ≡ [] → one ≡ none ++ a ∷ [] → two ≡ one ++ b ∷ [] → three ≡ two ++ c ∷ [] → four ≡ three ++ d ∷ [] → all ≡ four ++ e ∷ []
      → all ≡ a ∷ b ∷ c ∷ d ∷ e ∷ []
  pushed a b c d e none one two three four all n p q r s t =
      t ∙ ap (λ (xs : List SweepLine). xs ++ e ∷ []) (s ∙ ap (λ (xs : List SweepLine). xs ++ d ∷ []) (r ∙ ap (λ (xs : List SweepLine). xs ++ c ∷ []) (q ∙ ap (λ (xs : List SweepLine). xs ++ b ∷ []) (p ∙ ap (λ (xs : List SweepLine). xs ++ a ∷ []) n))))

  pub five : (a b c d e : SweepLine) → IsLineOf at p seat w Open a → IsLineOf at p seat w Closed b → IsLineOf at p seat w Cut c → IsLineOf at p seat w Kept d → IsLineOf at p seat w Drawn e
      → (none one two three four all : List SweepLine) → none ≡ [] → one ≡ none ++ a ∷ [] → two ≡ one ++ b ∷ [] → three ≡ two ++ c ∷ [] → four ≡ three ++ d ∷ [] → all ≡ four ++ e ∷ []
      → AreCrashes at p seat w all_endings all
  five a b c d e wide closed cut kept drawn none one two three four all n p1 p2 p3 p4 p5 =
      subst (λ (ls : List SweepLine). AreCrashes at p seat w all_endings ls) (sym (pushed a b c d e none one two three four all n p1 p2 p3 p4 p5))
      (one_more Open (Closed ∷ Cut ∷ Kept ∷ Drawn ∷ []) a (b ∷ c ∷ d ∷ e ∷ []) wide
      (one_more Closed (Cut ∷ Kept ∷ Drawn ∷ []) b (c ∷ d ∷ e ∷ []) closed
      (one_more Cut (Kept ∷ Drawn ∷ []) c (d ∷ e ∷ []) cut (one_more Kept (Drawn ∷ []) d (e ∷ []) kept (one_more Drawn [] e [] drawn refl)))))

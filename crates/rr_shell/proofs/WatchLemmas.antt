-- What a watch has said so far, and goes on to say.
use Rattle.std.proofs.Common.{◌≡◌, ◌∙◌, ℕ, Bool, true, false, List, [], ◌++◌, Option, None, Some, Result, Ok, Err, ap, subst, sym}
use Rattle.std.proofs.lemmas.List.{append-nil}
use Rattle.std.specs.Result.{OnErr}
use Rattle.std.proofs.KnownBytes.{Appends-nil, Appends-trans}
use Rattle.std.proofs.lemmas.List.Concat.{flat_map-append}
use Rattle.std.specs.List.{flat_map}
use Rattle.std.specs.Io.KnownBytes.{Appends}
use Rattle.rr_window.specs.declared.change.Change.{Change}
use Rattle.rr_stream.specs.Streams.{Printing, IsPrinted, IsFrontPrinted}
use Rattle.rr_shell.specs.Forms.{watching_said, late_said}
use Rattle.rr_shell.specs.declared.watching.Watched.{Watched}
use Rattle.rr_shell.specs.Deeds.{Deed}
use Rattle.rr_shell.specs.Watches.{change_said, changes_said, IsPiece, IsAdded, IsLook, IsToldOf, IsShown, IsFrontSaid}

-- nothing is added
pub added_nothing : (a : Printing) → IsAdded a a []
added_nothing a = (Appends-nil a.contents, λ is. is)

pub added_on : (a b c : Printing) (text more : List ℕ) → IsAdded a b text → IsAdded b c more → IsAdded a c (text ++ more)
added_on a b c text more first second = (Appends-trans a.contents b.contents c.contents text more first.0 second.0, λ is. second.1 (first.1 is))

-- a text that was added is a front of itself
pub front_of_added : (a b : Printing) (text : List ℕ) → Appends a.contents b.contents text → IsFrontSaid a b
front_of_added a b text is = (text, (text, [], sym (append-nil text), is))

-- a front of some text behind what was added is a front of some text
pub front_behind : (a b c : Printing) (text : List ℕ) → Appends a.contents b.contents text → IsFrontSaid b c → IsFrontSaid a c
front_behind a b c text first (said, (front, rest, is, second)) =
    front_of_added a c (text ++ front) (Appends-trans a.contents b.contents c.contents text front first second)

-- no changes are those of a piece of a list
pub no_piece : (prefix : List ℕ) (changes : List Change) → changes ≡ [] → IsPiece prefix changes
no_piece prefix changes none = ([], [], none)

-- nothing was said yet
pub said_nothing : (json : Bool) (changes : List Change) (a : Printing) → changes ≡ [] → IsAdded a a (flat_map (change_said json) changes)
said_nothing json changes a none = subst (λ (l : List Change). IsAdded a a (flat_map (change_said json) l)) (sym none) (added_nothing a)

-- one more look, where none were missed
pub said_more : (json : Bool) (prefix : List ℕ) (before after : List Change) (a b c : Printing) → IsAdded a b (flat_map (change_said json) before)
    → IsLook json prefix true before after b c → IsAdded a c (flat_map (change_said json) after)
said_more json prefix before after a b c first (piece, changes, is, second) =
    subst (λ (t : List ℕ). IsAdded a c t) (sym (ap (flat_map (change_said json)) is ∙ flat_map-append (change_said json) before changes))
    (added_on a b c (flat_map (change_said json) before) (flat_map (change_said json) changes) first second)

-- all is told, and none were missed
pub told_all : (json : Bool) (prefix : List ℕ) (changes : List Change) (a b : Printing) → IsPiece prefix changes → IsAdded a b (flat_map (change_said json) changes)
    → IsToldOf json prefix a b
told_all json prefix changes a b piece is =
    (changes, false, piece, subst (λ (t : List ℕ). IsAdded a b t) (sym (append-nil (flat_map (change_said json) changes))) is)

-- some were missed
pub told_late : (json : Bool) (prefix : List ℕ) (changes : List Change) (a b c : Printing) → IsPiece prefix changes → IsAdded a b (flat_map (change_said json) changes)
    → IsAdded b c (late_said json) → IsToldOf json prefix a c
told_late json prefix changes a b c piece first second =
    (changes, true, piece, added_on a b c (flat_map (change_said json) changes) (late_said json) first second)

-- what is told is a front of some text
pub told_front : (json : Bool) (prefix : List ℕ) (a b : Printing) → IsToldOf json prefix a b → IsFrontSaid a b
told_front json prefix a b (changes, late, piece, added) = front_of_added a b (changes_said json changes late) added.0

-- what is shown while a line is heard is a front of some text
pub shown_front : (Did : Deed → Type 0) (json : Bool) (p : ℕ) (w : Option Watched) (a b : Printing) → IsShown Did json p w a b → IsFrontSaid a b
shown_front Did json p None a b same = subst (λ (p : Printing). IsFrontSaid a p) (sym same) (front_of_added a a [] (Appends-nil a.contents))
shown_front Did json p (Some w) a b (did, changes, late, piece, printed) = front_of_added a b (watching_said json ++ changes_said json changes late) printed.0

-- and so is what is printed of an answer behind it
pub answer_front : (Did : Deed → Type 0) (json : Bool) (p : ℕ) (w : Option Watched) (a b c : Printing) (text : List ℕ) → IsShown Did json p w a b → IsFrontPrinted b c text → IsFrontSaid a c
answer_front Did json p None a b c text same front = subst (λ (p : Printing). IsFrontSaid p c) same (text, front)
answer_front Did json p (Some w) a b c text (did, changes, late, piece, printed) front =
    front_behind a b c (watching_said json ++ changes_said json changes late) printed.0 (text, front)

-- a front of some text behind what was printed, where there is an error
pub front_at_error : {A E : Type 0} (r : Result A E) (a b c : Printing) (text : List ℕ) → IsPrinted a b text → IsFrontSaid b c → OnErr r (IsFrontSaid a c)
front_at_error (Ok x) a b c text first second = tt
front_at_error (Err e) a b c text first second = front_behind a b c text first.0 second

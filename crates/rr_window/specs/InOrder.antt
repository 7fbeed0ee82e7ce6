-- What is known where many put and one takes, first in first out. Each end has a number.
use Rattle.std.specs.Prelude.{◌≡◌, ◌≢◌, ℕ, suc, ◌+◌, ◌≤◌, ◌<◌, ◌==◌, Bool, true, false, if◌then◌else◌, List, [], ◌∷◌, ◌++◌, map, length}
use mathlib.Core.List.{IsPrefix}
use Rattle.atomic_table.specs.Seated.{TableId}
use Rattle.atomic_table.specs.declared.badge.Badge.{Badge}
use Rattle.crossbeam_channel.specs.declared.flavors.array.Key.{Key}
use Rattle.rr_window.specs.declared.view.View.{View}

-- which inbox: its queue
abbrev pub Inbox : Type 0
Inbox = TableId

-- which hand-over: its channel
abbrev pub Channel : Type 0 → Type 0
Channel T = TableId × Badge (Key T)

-- an end of a queue: which queue, and what the end knows
pub record End (Q T : Type 0) : Type 0 where
  pub queue : Q
  pub view : View T

module _ {T : Type 0} where
  abbrev pub view_of : Bool → ℕ → ℕ → List (ℕ × T) → List T → List T → View T
  view_of takes number ends known put got =
      record { takes = takes; number = number; ends = ends; known = known; put = put; got = got }

  abbrev pub end_of : {Q : Type 0} → Q → View T → End Q T
  end_of q v = record { queue = q; view = v }

  -- what this end put, of all that was put
  abbrev pub put_by : ℕ → List (ℕ × T) → List T
  put_by end [] = []
  put_by end (p ∷ ps) = if p.0 == end then p.1 ∷ put_by end ps else put_by end ps

  -- the messages, whoever put them
  abbrev pub messages : List (ℕ × T) → List T
  messages ps = map (λ p. p.1) ps

  -- of all that was put an end knows a beginning, and just what it put itself; the one that takes has number 0, and knows
  -- just what was taken and how many ends were made
  pub record Fits (all : List (ℕ × T)) (got : List T) (ends : ℕ) (v : View T) : Type 0 where
    pub known : IsPrefix v.known all
    pub put : put_by v.number all ≡ v.put
    pub made : v.number < ends
    pub taken : v.takes ≡ true → (v.number ≡ 0) × (v.got ≡ got) × (v.ends ≡ ends)

  -- the ends whose views the passes have: each pass has that of its own end, or for a moment those of two
  abbrev pub ends_in : List (List (View T)) → List (View T)
  ends_in [] = []
  ends_in (h ∷ hs) = h ++ ends_in hs

  -- how many of them have this number
  abbrev pub times : ℕ → List (View T) → ℕ
  times n [] = 0
  times n (v ∷ vs) = (if v.number == n then 1 else 0) + times n vs

  abbrev pub Each : (View T → Type 0) → List (View T) → Type 0
  Each F [] = Unit {0}
  Each F (v ∷ vs) = F v × Each F vs

  -- the rule: all that was put is what was taken, in order, and then what waits. No two ends have one number
  pub record InOrder (items : List T) (hands : List (List (View T))) : Type 0 where
    pub all : List (ℕ × T)
    pub got : List T
    pub ends : ℕ
    pub order : messages all ≡ got ++ items
    pub fit : Each (Fits all got ends) (ends_in hands)
    pub apart : (n : ℕ) → times n (ends_in hands) ≤ 1
    pub unmade : (n : ℕ) → ends ≤ n → put_by n all ≡ []

  -- a put: the message stands behind all that was put, of which the end knew a beginning, and is one more of its own
  pub record Puts (v : View T) (x : T) (w : View T) : Type 0 where
    pub others : List (ℕ × T)
    pub known : w.known ≡ (v.known ++ others) ++ (v.number, x) ∷ []
    pub put : w.put ≡ v.put ++ x ∷ []
    pub own : put_by v.number w.known ≡ w.put
    pub rest : (w.takes ≡ v.takes) × (w.number ≡ v.number) × (w.ends ≡ v.ends) × (w.got ≡ v.got)

  -- a take: the message is the next of all that was put
  pub record Takes (v : View T) (x : T) (w : View T) : Type 0 where
    pub got : w.got ≡ v.got ++ x ∷ []
    pub order : IsPrefix w.got (messages w.known)
    pub known : IsPrefix v.known w.known
    pub rest : (w.takes ≡ v.takes) × (w.number ≡ v.number) × (w.ends ≡ v.ends) × (w.put ≡ v.put)

  -- of all that was put, which goes on from what the end knows, just these messages weren't taken
  abbrev pub Waits : View T → List T → Type 0
  Waits v items =
      (all : List (ℕ × T)) × (got : List T) × IsPrefix v.known all × (messages all ≡ got ++ items)
      × (v.takes ≡ true → v.got ≡ got)

  -- at some moment so many messages waited
  abbrev pub HasHeld : ℕ → View T → Type 0
  HasHeld n v = (items : List T) × (length items ≡ n) × Waits v items

  -- all that was put into one queue: both ends know a beginning of it and each just what it put itself, under its own number;
  -- and what was taken is a beginning of it
  pub record OneQueue (taker putter : View T) : Type 0 where
    pub all : List (ℕ × T)
    pub known : IsPrefix taker.known all × IsPrefix putter.known all
    pub got : IsPrefix taker.got (messages all)
    pub put : (put_by taker.number all ≡ taker.put) × (put_by putter.number all ≡ putter.put)
    pub apart : putter.number ≢ taker.number

  -- one more end is made by the one that takes
  abbrev pub one_more : View T → View T
  one_more v = view_of v.takes v.number (suc v.ends) v.known v.put v.got

  abbrev pub new_end : View T → View T
  new_end v = view_of false v.ends 0 v.known [] []

  -- the first end that takes; and of the views of a pass the first, the second, and all but the first
  abbrev pub first_taker : View T
  first_taker = view_of true 0 1 [] [] []

  abbrev pub first_of : List (View T) → View T
  first_of [] = first_taker
  first_of (v ∷ vs) = v

  abbrev pub rest_of : List (View T) → List (View T)
  rest_of [] = []
  rest_of (v ∷ vs) = vs

  -- a pass has the view of one end alone; or of two
  abbrev pub IsOne : List (View T) → Type 0
  IsOne h = h ≡ first_of h ∷ []

  abbrev pub IsTwo : List (View T) → Type 0
  IsTwo h = h ≡ first_of h ∷ first_of (rest_of h) ∷ []

  -- the same of the views that a pass has
  abbrev pub PutsIn : List (View T) → T → List (View T) → Type 0
  PutsIn h x k = IsOne k × Puts (first_of h) x (first_of k)

  abbrev pub TakesIn : List (View T) → T → List (View T) → Type 0
  TakesIn h x k = IsOne k × Takes (first_of h) x (first_of k)

  abbrev pub WaitsIn : List (View T) → List T → Type 0
  WaitsIn h items = Waits (first_of h) items

  -- where a pass has the views of two ends, one of which takes, what they know is of one queue
  abbrev pub MeetIn : List (View T) → List T → Type 0
  MeetIn h items =
      ((first_of h).takes ≡ true → OneQueue (first_of h) (first_of (rest_of h)))
      × ((first_of (rest_of h)).takes ≡ true → OneQueue (first_of (rest_of h)) (first_of h))

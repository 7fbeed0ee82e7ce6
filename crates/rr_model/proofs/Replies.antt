-- A longer list gives each reply that a shorter one gives, and a list with a reply to a request holds the request.
use Rattle.std.proofs.Common.{◌≡◌, Bool, true, false, if◌then◌else◌, List, [], ◌∷◌, ◌++◌, Option, Some, refl, ap, sym, subst}
use Rattle.std.proofs.lemmas.Option.{none-some}
use Rattle.rr_types.specs.declared.command.Command.{Command}
use Rattle.rr_types.specs.declared.command.RequestNo.{RequestNo}
use Rattle.rr_types.specs.declared.command.Reply.{Reply}
use Rattle.rr_types.specs.Registry.{is_same_request, has_request, Bindings, apply, firsts_beside, firsts, reply_after, reply_of}

pub record Firsts (seen xs ys : List Command) : Type 0 where
  pub rest : List Command
  pub is : firsts_beside seen (xs ++ ys) ≡ firsts_beside seen xs ++ rest

firsts_one : (b : Bool) (x : Command) (seen xs ys : List Command) → Firsts seen xs ys → Firsts (x ∷ seen) xs ys → (rest : List Command) × ((if b then firsts_beside seen (xs ++ ys) else x ∷ firsts_beside (x ∷ seen) (xs ++ ys)) ≡ (if b then firsts_beside seen xs else x ∷ firsts_beside (x ∷ seen) xs) ++ rest)
firsts_one true x seen xs ys f g = (f.rest, f.is)
firsts_one false x seen xs ys f g = (g.rest, ap (λ z. x ∷ z) g.is)

-- the commands that count in a longer list begin with those of the shorter one
pub firsts_append : (seen xs ys : List Command) → Firsts seen xs ys
firsts_append seen [] ys = record { rest = firsts_beside seen ys; is = refl }
firsts_append seen (x ∷ xs) ys =
    let r : (rest : List Command) × (firsts_beside seen (x ∷ (xs ++ ys)) ≡ firsts_beside seen (x ∷ xs) ++ rest) =
    firsts_one (has_request seen x.request) x seen xs ys (firsts_append seen xs ys) (firsts_append (x ∷ seen) xs ys) in
    record { rest = r.0; is = r.1 }

reply_one : (b : Bool) (a : Reply) (o z : Option Reply) (r : Reply) → (o ≡ Some r → z ≡ Some r) → (if b then Some a else o) ≡ Some r → (if b then Some a else z) ≡ Some r
reply_one true a o z r f e = e
reply_one false a o z r f e = f e

reply_after_longer : (m : Bindings) (xs ys : List Command) (q : RequestNo) (r : Reply) → reply_after m xs q ≡ Some r → reply_after m (xs ++ ys) q ≡ Some r
reply_after_longer m [] ys q r e = absurd (none-some r e)
reply_after_longer m (x ∷ xs) ys q r e = reply_one (is_same_request x.request q) (apply m x).1 (reply_after (apply m x).0 xs q) (reply_after (apply m x).0 (xs ++ ys) q) r (reply_after_longer (apply m x).0 xs ys q r) e

-- a longer list gives the same reply
pub same_reply : (xs ys : List Command) (q : RequestNo) (r : Reply) → reply_of xs q ≡ Some r → reply_of (xs ++ ys) q ≡ Some r
same_reply xs ys q r e =
    let f : Firsts [] xs ys = firsts_append [] xs ys in
    subst (λ z. reply_after [] z q ≡ Some r) (sym f.is) (reply_after_longer [] (firsts xs) f.rest q r e)

holds_one : (b c : Bool) (a : Reply) (o z : Option Reply) (t : Bool) (r : Reply) → (o ≡ Some r → t ≡ true) → (z ≡ Some r → t ≡ true) → (if c then o else (if b then Some a else z)) ≡ Some r → (if b then true else t) ≡ true
holds_one true c a o z t r f g e = refl
holds_one false true a o z t r f g e = f e
holds_one false false a o z t r f g e = g e

pull_in : (c : Bool) (m : Bindings) (x : Command) (xs ys : List Command) (q : RequestNo) (r : Reply) → reply_after m (if c then xs else x ∷ ys) q ≡ Some r → (if c then reply_after m xs q else (if is_same_request x.request q then Some (apply m x).1 else reply_after (apply m x).0 ys q)) ≡ Some r
pull_in true m x xs ys q r e = e
pull_in false m x xs ys q r e = e

replied_holds : (m : Bindings) (seen xs : List Command) (q : RequestNo) (r : Reply) → reply_after m (firsts_beside seen xs) q ≡ Some r → has_request xs q ≡ true
replied_holds m seen [] q r e = absurd (none-some r e)
replied_holds m seen (x ∷ xs) q r e =
    holds_one (is_same_request x.request q) (has_request seen x.request) (apply m x).1 (reply_after m (firsts_beside seen xs) q) (reply_after (apply m x).0 (firsts_beside (x ∷ seen) xs) q) (has_request xs q) r
    (replied_holds m seen xs q r) (replied_holds (apply m x).0 (x ∷ seen) xs q r)
    (pull_in (has_request seen x.request) m x (firsts_beside seen xs) (firsts_beside (x ∷ seen) xs) q r e)

-- a list that has a reply to a request holds it
pub reply_holds : (xs : List Command) (q : RequestNo) (r : Reply) → reply_of xs q ≡ Some r → has_request xs q ≡ true
reply_holds xs q r e = replied_holds [] [] xs q r e

use Rattle.std.proofs.Common.{◌≡◌, ◌∙◌, ◌++◌, ap, sym, List, [], Option, unwrap_or, option_map, map, ℕ, Bor}
use Rattle.clap.specs.Words.{found_of}
use Rattle.clap.proofs.WalkLemmas.{raw_values-rows}
use Rattle.rr_words.proofs.tasks.words_of.Goals as goal

-- the texts of values, or none
abbrev texts_of : Option (Bor (List (Bor (List ℕ)))) → List (List ℕ)
texts_of given = unwrap_or (option_map (λ s. map (λ v. v.now) s.now) given) []

pub returns-in-None : goal.returns-in-None
returns-in-None c =
    ap (λ (l : List (Bor (List ℕ))). map (λ s. s.now) l) c.new.ensures.items
    ∙ ap texts_of (sym c.in-None.is)
    ∙ ap (λ (o : Option (List (List ℕ))). unwrap_or o []) (c.get_strs.ensures ∙ raw_values-rows (found_of c.args.matches.now) c.args.id.now)

pub returns-in_ok-extend_from_slice-in-Some : goal.returns-in_ok-extend_from_slice-in-Some
returns-in_ok-extend_from_slice-in-Some c =
    ap (λ (l : List (Bor (List ℕ))). map (λ s. s.now) l) (c.in_ok-extend_from_slice-in-Some.ensures.items)
    ∙ ap (λ (l : List (Bor (List ℕ))). map (λ s. s.now) (l ++ c.in-Some.given.now)) c.new-words.ensures.items
    ∙ ap texts_of (sym c.in-Some.is)
    ∙ ap (λ (o : Option (List (List ℕ))). unwrap_or o []) (c.get_strs.ensures ∙ raw_values-rows (found_of c.args.matches.now) c.args.id.now)

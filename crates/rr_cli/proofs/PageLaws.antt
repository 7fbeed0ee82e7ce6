-- What a page is put together of.
use Rattle.std.proofs.Common.{◌≡◌, ◌∙◌, ℕ, List, [], ◌++◌, ap, subst}
use Rattle.std.specs.List.{flat_map}
use Rattle.rr_draw.specs.Pictures.{in_script}
use Rattle.rr_cli.specs.Pages.{HasBoth}

-- a text that grew by a front, the data, a middle, the picture and a back
pub grew : (objects picture front middle back none first second third fourth text : List ℕ) → none ≡ [] → first ≡ none ++ front
    → second ≡ first ++ flat_map in_script objects → third ≡ second ++ middle → fourth ≡ third ++ picture → text ≡ fourth ++ back
    → HasBoth objects picture text
grew objects picture front middle back none first second third fourth text a b c d e f =
    record {
      front = front;
      middle = middle;
      back = back;
      whole = f ∙ ap (λ (t : List ℕ). t ++ back) (e ∙ ap (λ (t : List ℕ). t ++ picture) (d ∙ ap (λ (t : List ℕ). t ++ middle)
          (c ∙ ap (λ (t : List ℕ). t ++ flat_map in_script objects) (b ∙ ap (λ (t : List ℕ). t ++ front) a))));
    }

-- the same of equal data and an equal picture
pub of_equal : (objects picture other_objects other_picture text : List ℕ) → objects ≡ other_objects → picture ≡ other_picture → HasBoth objects picture text
    → HasBoth other_objects other_picture text
of_equal objects picture other_objects other_picture text p q has =
    subst (λ (os : List ℕ). HasBoth os other_picture text) p (subst (λ (ps : List ℕ). HasBoth objects ps text) q has)

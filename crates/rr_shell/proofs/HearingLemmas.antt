-- What is read of a line in parts.
use Rattle.std.proofs.Common.{◌∙◌, ℕ, List, [], ◌∷◌, ◌++◌, ◌&&◌, sym, ap₂, subst, append_assoc, inl, inr, not, ◌==◌}
use Rattle.std.proofs.lemmas.List.Folds.{list_all-append}
use Rattle.std.proofs.KnownBytes.{Consumes-trans}
use Rattle.std.specs.Io.KnownBytes.{Consumes}
use Rattle.rr_stream.specs.Streams.{Reading}
use Rattle.rr_shell.specs.Hearings.{IsOneLine, IsLineRead}

pub one_line : (front text : List ℕ) → IsOneLine front → IsOneLine text → IsOneLine (front ++ text)
one_line front text first second = list_all-append (λ b. not (b == 10)) front text ∙ ap₂ (λ a b. a && b) first second

pub read_on : (a b c : Reading) (front text : List ℕ) → IsOneLine front → Consumes a.remaining b.remaining front → IsLineRead b c text → IsLineRead a c (front ++ text)
read_on a b c front text first read (second, inl ended) =
    (one_line front text first second, inl (subst (λ bytes. Consumes a.remaining c.remaining bytes) (sym (append_assoc front text (10 ∷ []))) (Consumes-trans a.remaining b.remaining c.remaining front (text ++ 10 ∷ []) read ended)))
read_on a b c front text first read (second, inr (ended, last)) =
    (one_line front text first second, inr (Consumes-trans a.remaining b.remaining c.remaining front text read ended, last))

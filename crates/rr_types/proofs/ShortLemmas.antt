-- A text written over the first of 64 zeros is padded as a short text is.
use Rattle.std.proofs.Common.{◌≡◌, ◌≤◌, ℕ, List, ◌++◌, length, drop, ◌∙◌, arith}
use Rattle.std.proofs.lemmas.List.{drop-replicate}
use Rattle.std.proofs.Math.Seq.{drop-append_seam}
use Rattle.std.specs.Prelude.{replicate}
use Rattle.std.proofs.lemmas.Grind.{common_steps}
use Rattle.rr_types.specs.Short.{IsPadded}

-- a text written over the first of 64 zeros
pub padded-fill : (text bytes : List ℕ) → length text ≤ 64 → bytes ≡ text → IsPadded (length text) (bytes ++ drop (length text) (replicate 64 0))
padded-fill text bytes short e = record {
  short = short;
  whole = grind (arith, common_steps);
  zeros = rw e (drop-append_seam text _ ∙ drop-replicate (length text) 64 0);
}

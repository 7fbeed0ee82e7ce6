-- What an audit finds of bytes.
use Rattle.std.specs.Prelude.{◌≡◌, ℕ, List}
use Rattle.rr_text.specs.Taped.{Taped, IsTape}
use Rattle.rr_text.specs.TapeTexts.{tape_text}
use Rattle.rr_audit.specs.Audits.{IsVerdict}
use Rattle.rr_audit.specs.declared.auditing.Verdict.{Verdict}

-- the bytes are the text of a tape, and this is what an audit finds of it
pub record IsVerdictOn (bytes : List ℕ) (verdict : Verdict) : Type 0 where
  pub tape : Taped
  pub lawful : IsTape tape
  pub read : bytes ≡ tape_text tape
  pub found : IsVerdict tape.nodes tape.events verdict

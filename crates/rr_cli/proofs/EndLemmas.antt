-- What keeps the words of a command line from naming a task: no memory, the help, the version, or a mistake.
use Rattle.std.proofs.Common.{◌≡◌, ◌≢◌, ◌⊎◌, refl, inl, inr}
use Rattle.clap.specs.declared.error.kind.ErrorKind.{ErrorKind}
use Rattle.clap.specs.declared.error.kind.ErrorKind.TheVariants as kinds
use Rattle.rr_cli.specs.Ends.{IsMistake}

-- no memory, the help, the version or a mistake
pub kind_cases : (kind : ErrorKind) → (kind ≡ kinds.OutOfMemory) ⊎ ((kind ≡ kinds.DisplayHelp) ⊎ ((kind ≡ kinds.DisplayVersion) ⊎ ((kind ≢ kinds.OutOfMemory) × IsMistake kind)))
kind_cases kinds.OutOfMemory = inl refl
kind_cases kinds.DisplayHelp = inr (inl refl)
kind_cases kinds.DisplayVersion = inr (inr (inl refl))
kind_cases kinds.InvalidValue = inr (inr (inr (λ e. cc, (λ e. cc, λ e. cc))))
kind_cases kinds.UnknownArgument = inr (inr (inr (λ e. cc, (λ e. cc, λ e. cc))))
kind_cases kinds.InvalidSubcommand = inr (inr (inr (λ e. cc, (λ e. cc, λ e. cc))))
kind_cases kinds.NoEquals = inr (inr (inr (λ e. cc, (λ e. cc, λ e. cc))))
kind_cases kinds.ValueValidation = inr (inr (inr (λ e. cc, (λ e. cc, λ e. cc))))
kind_cases kinds.TooManyValues = inr (inr (inr (λ e. cc, (λ e. cc, λ e. cc))))
kind_cases kinds.TooFewValues = inr (inr (inr (λ e. cc, (λ e. cc, λ e. cc))))
kind_cases kinds.WrongNumberOfValues = inr (inr (inr (λ e. cc, (λ e. cc, λ e. cc))))
kind_cases kinds.ArgumentConflict = inr (inr (inr (λ e. cc, (λ e. cc, λ e. cc))))
kind_cases kinds.MissingRequiredArgument = inr (inr (inr (λ e. cc, (λ e. cc, λ e. cc))))
kind_cases kinds.MissingSubcommand = inr (inr (inr (λ e. cc, (λ e. cc, λ e. cc))))
kind_cases kinds.DisplayHelpOnMissingArgumentOrSubcommand = inr (inr (inr (λ e. cc, (λ e. cc, λ e. cc))))
kind_cases kinds.Io = inr (inr (inr (λ e. cc, (λ e. cc, λ e. cc))))
kind_cases kinds.Format = inr (inr (inr (λ e. cc, (λ e. cc, λ e. cc))))

-- Words that ask for no view.
use Rattle.std.proofs.Common.{◌≡◌, [], Option, subst}
use Rattle.clap.specs.Words.{Text}
use Rattle.clap.specs.Kinds.{Kinds, IsAmong}
use Rattle.clap.specs.declared.error.kind.ErrorKind.{ErrorKind}
use Rattle.rr_words.specs.Tasks.{CutWords, RandomWords, ReplaceWords, ShellWords, View, Simulate, Viewing, Show, Random, Audit, Run, Shell, Sweep, Draw, Migrate, Replace, Verify, Export}
use Rattle.rr_words.specs.declared.tasks.Exported.{Exported}
use Rattle.rr_words.specs.declared.tasks.Form.{Form}

-- no kind is among none
pub none_among : (kind : ErrorKind) (kinds : Kinds) → IsAmong kind kinds → kinds ≡ [] → ⊥
none_among kind kinds among none = subst (λ ks. IsAmong kind ks) none among

pub no_simulate : (file : Option Text) (view : View) → Simulate file ≡ Viewing view → ⊥
no_simulate file view is = absurd cc

pub no_show : (folder : Option Text) (form : Form) (view : View) → Show folder form ≡ Viewing view → ⊥
no_show folder form view is = absurd cc

pub no_random : (words : RandomWords) (view : View) → Random words ≡ Viewing view → ⊥
no_random words view is = absurd cc

pub no_audit : (file : Option Text) (form : Form) (view : View) → Audit file form ≡ Viewing view → ⊥
no_audit file form view is = absurd cc

pub no_run : (nodes dir script tape tick without : Option Text) (form : Form) (view : View) → Run nodes dir script tape tick without form ≡ Viewing view → ⊥
no_run nodes dir script tape tick without form view is = absurd cc

pub no_shell : (words : ShellWords) (view : View) → Shell words ≡ Viewing view → ⊥
no_shell words view is = absurd cc

pub no_sweep : (file seed : Option Text) (view : View) → Sweep file seed ≡ Viewing view → ⊥
no_sweep file seed view is = absurd cc

pub no_draw : (file : Option Text) (words : CutWords) (view : View) → Draw file words ≡ Viewing view → ⊥
no_draw file words view is = absurd cc

pub no_migrate : (folder seat nodes : Option Text) (view : View) → Migrate folder seat nodes ≡ Viewing view → ⊥
no_migrate folder seat nodes view is = absurd cc

pub no_replace : (words : ReplaceWords) (view : View) → Replace words ≡ Viewing view → ⊥
no_replace words view is = absurd cc

pub no_verify : (dir : Option Text) (form : Form) (view : View) → Verify dir form ≡ Viewing view → ⊥
no_verify dir form view is = absurd cc

pub no_export : (dir : Option Text) (what : Exported) (view : View) → Export dir what ≡ Viewing view → ⊥
no_export dir what view is = absurd cc

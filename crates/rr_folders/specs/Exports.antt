-- The registry of a decided list as a script of claims.
use Rattle.std.specs.Prelude.{ℕ, suc, ◌+◌, ◌==◌, if◌then◌else◌, List, [], ◌∷◌, ◌++◌, map}
use Rattle.rr_types.specs.declared.command.Op.TheVariants.{Claim}
use Rattle.rr_types.specs.declared.command.Command.{Command}
use Rattle.rr_types.specs.Registry.{Holding, Bindings}
use Rattle.rr_text.specs.declared.script_line.ScriptLine.{ScriptLine}
use Rattle.rr_text.specs.declared.script_line.ScriptLine.TheVariants.{Submit, Look}

-- how many of these names a client has
abbrev pub owned : ℕ → Bindings → ℕ
owned client [] = 0
owned client (b ∷ bs) = if b.1.owner == client then suc (owned client bs) else owned client bs

-- the claim of a name by its owner, with this number of the request
abbrev pub claim_of : ℕ → List ℕ × Holding → Command
claim_of seq b = record { request = record { client = b.1.owner; seq = seq }; op = Claim b.0 b.1.value }

-- claims of these names in their order, behind those of others: each client numbers its requests from 1
abbrev pub claims_behind : Bindings → Bindings → List Command
claims_behind before [] = []
claims_behind before (b ∷ bs) = claim_of (owned b.1.owner before + 1) b ∷ claims_behind (before ++ b ∷ []) bs

-- claims of these names, which submit them to node 0
abbrev pub export_of : Bindings → List ScriptLine
export_of m = map (λ c. Submit 0 c) (claims_behind [] m)

-- the commands that a script submits
abbrev pub commands_of : List ScriptLine → List Command
commands_of [] = []
commands_of (Submit p c ∷ lines) = c ∷ commands_of lines
commands_of (Look p name ∷ lines) = commands_of lines

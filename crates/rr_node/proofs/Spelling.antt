-- What a node writes to its disk are bytes.
use Rattle.std.proofs.Common.{◌≡◌, ◌⊎◌, inl, inr, ℕ, ◌<◌, ◌≤◌, Bool, true, ◌&&◌, ◌||◌, List, [], ◌∷◌, ◌++◌, length, leb, eqb, sym, subst, arith, Option, None, Some}
use Rattle.std.specs.Prelude.{IfSome}
use Rattle.std.specs.List.{flat_map, AllByRecursion, list_all}
use Rattle.std.proofs.lemmas.Bool.{and_parts, or_cases, leb-true, eqb-true}
use Rattle.std.proofs.lemmas.List.Concat.{flat_map-cons}
use Rattle.std.proofs.lemmas.List.Elements.{All-nil, All-cons, All-append, All-from_get_or}
use Rattle.rr_types.specs.declared.command.Op.{Op}
use Rattle.rr_types.specs.declared.command.Operand.{Operand}
use Rattle.rr_types.specs.declared.command.Operand.TheVariants.{Nothing, Value, Owner}
use Rattle.rr_types.specs.Commands.{op_byte, op_kind, op_name, op_operand}
use Rattle.rr_types.specs.declared.command.Command.{Command}
use Rattle.rr_types.specs.declared.fact.Fact.{Fact}
use Rattle.rr_types.specs.declared.fact.Fact.TheVariants.{Enter, Propose, Adopt, Decide}
use Rattle.rr_types.specs.Groups.{Grouped}
use Rattle.rr_types.specs.Names.{IsName, IsValue, is_name_byte, is_value_byte}
use Rattle.rr_types.specs.declared.promise.Entry.{Entry}
use Rattle.rr_types.specs.declared.promise.Standing.{Standing}
use Rattle.rr_types.specs.declared.promise.Standing.TheVariants.{Decided, Open}
use Rattle.rr_types.specs.Rounds.{Estimated, coordinator_of}
use Rattle.rr_frame.specs.declared.version.Version.TheVariants.{Two}
use Rattle.rr_frame.specs.Numbers.{number_bytes}
use Rattle.rr_frame.specs.CommandFormat.{text_bytes, operand_bytes, op_bytes, command_bytes, IsLawfulOperand, IsLawfulOp, IsLawfulCommand}
use Rattle.rr_frame.specs.FactFormat.{estimate_bytes, fact_bytes, IsLawfulEstimate, IsLawfulFact}
use Rattle.rr_frame.specs.GroupFormat.{group_bytes, IsLawfulGroup}
use Rattle.rr_frame.specs.Snapshots.{Snapped}
use Rattle.rr_frame.specs.SnapshotFormat.{proposal_bytes, open_bytes, standing_bytes, entry_bytes, owner_bytes, contents_bytes, snapshot_bytes, snapshot_bytes_in, IsLawfulStandingIn, IsLawfulEntryIn}
use Rattle.rr_frame.proofs.FieldLaws.{IsBytes-high_first}
use Rattle.rr_journal.specs.Calls.{frame_bytes}
use Rattle.rr_node.proofs.InOrder.{Bytes}

both_fit : (xs ys : List ℕ) → Bytes xs → Bytes ys → Bytes (xs ++ ys)
both_fit xs ys one other = All-append (λ b. b < 256) xs ys one other

pub number_fits : (n x : ℕ) → Bytes (number_bytes n x)
unfolding number_bytes
number_fits n x = All-from_get_or (λ b. b < 256) _ 0 (λ i lt. IsBytes-high_first n x i)

letters_fit : (p : ℕ → Bool) → ((b : ℕ) → p b ≡ true → b < 256) → (bytes : List ℕ) → list_all p bytes ≡ true → Bytes bytes
letters_fit p small [] all = All-nil (λ b. b < 256)
letters_fit p small (b ∷ bytes) all =
    let parts = and_parts (p b) (list_all p bytes) all in
    All-cons (λ x. x < 256) b bytes (small b parts.0) (letters_fit p small bytes parts.1)

name_byte : (b : ℕ) → is_name_byte b ≡ true → b < 256
name_byte b is = by (or_cases _ _ is)
  where
    small : ((leb 97 b && leb b 122) ≡ true) ⊎ ((leb 48 b && leb b 57) ≡ true) → b < 256
    small (inl e) = let le : b ≤ 122 = leb-true b 122 (and_parts _ _ e).1 in omega arith
    small (inr e) = let le : b ≤ 57 = leb-true b 57 (and_parts _ _ e).1 in omega arith

    by : (((leb 97 b && leb b 122) || (leb 48 b && leb b 57)) ≡ true) ⊎ (eqb b 45 ≡ true) → b < 256
    by (inl e) = small (or_cases _ _ e)
    by (inr e) = let same : b ≡ 45 = eqb-true b 45 e in omega arith

value_byte : (b : ℕ) → is_value_byte b ≡ true → b < 256
value_byte b is = let le : b ≤ 126 = leb-true b 126 (and_parts _ _ is).1 in omega arith

text_fits : (bytes : List ℕ) → Bytes bytes → Bytes (text_bytes bytes)
text_fits bytes fit = both_fit (number_bytes 1 (length bytes)) bytes (number_fits 1 (length bytes)) fit

name_fits : (bytes : List ℕ) → IsName bytes → Bytes (text_bytes bytes)
name_fits bytes is = text_fits bytes (letters_fit is_name_byte name_byte bytes is.letters)

value_fits : (bytes : List ℕ) → IsValue bytes → Bytes (text_bytes bytes)
value_fits bytes is = text_fits bytes (letters_fit is_value_byte value_byte bytes is.letters)

operand_fits : (o : Operand) → IsLawfulOperand o → Bytes (operand_bytes o)
operand_fits Nothing is = All-nil (λ b. b < 256)
operand_fits (Value value) is = value_fits value is
operand_fits (Owner owner) is = number_fits 4 owner

op_fits : (op : Op) → IsLawfulOp op → Bytes (op_bytes op)
unfolding op_bytes
op_fits op is =
    both_fit (number_bytes 1 (op_byte (op_kind op))) (text_bytes (op_name op) ++ operand_bytes (op_operand op)) (number_fits 1 (op_byte (op_kind op)))
    (both_fit (text_bytes (op_name op)) (operand_bytes (op_operand op)) (name_fits (op_name op) is.name.0) (operand_fits (op_operand op) is.operand))

command_fits : (c : Command) → IsLawfulCommand c → Bytes (command_bytes c)
unfolding command_bytes
command_fits c is =
    both_fit (number_bytes 4 c.request.client) (number_bytes 8 c.request.seq ++ op_bytes c.op) (number_fits 4 c.request.client) (both_fit (number_bytes 8 c.request.seq) (op_bytes c.op) (number_fits 8 c.request.seq) (op_fits c.op is.op))

estimate_fits : (e : Estimated) → IsLawfulEstimate e → Bytes (estimate_bytes e)
unfolding estimate_bytes
estimate_fits e is =
    both_fit (number_bytes 4 e.round) (number_bytes 4 e.stamp ++ command_bytes e.command) (number_fits 4 e.round) (both_fit (number_bytes 4 e.stamp) (command_bytes e.command) (number_fits 4 e.stamp) (command_fits e.command is.command))

-- a kind, an instance, and what stands behind
kind_fits : (kind i : ℕ) (rest : List ℕ) → Bytes rest → Bytes (number_bytes 1 kind ++ (number_bytes 4 i ++ rest))
kind_fits kind i rest fit = both_fit (number_bytes 1 kind) (number_bytes 4 i ++ rest) (number_fits 1 kind) (both_fit (number_bytes 4 i) rest (number_fits 4 i) fit)

fact_fits : (f : Fact) → IsLawfulFact f → Bytes (fact_bytes f)
unfolding fact_bytes
fact_fits (Enter i e) is = kind_fits 1 i (estimate_bytes e) (estimate_fits e is.1)
fact_fits (Propose i r v) is = kind_fits 2 i (number_bytes 4 r ++ command_bytes v) (both_fit (number_bytes 4 r) (command_bytes v) (number_fits 4 r) (command_fits v is.2))
fact_fits (Adopt i r v) is = kind_fits 3 i (number_bytes 4 r ++ command_bytes v) (both_fit (number_bytes 4 r) (command_bytes v) (number_fits 4 r) (command_fits v is.2))
fact_fits (Decide i v) is = kind_fits 4 i (command_bytes v) (command_fits v is.1)

facts_fit : (facts : List Fact) → AllByRecursion IsLawfulFact facts → Bytes (flat_map fact_bytes facts)
facts_fit [] is = All-nil (λ b. b < 256)
facts_fit (f ∷ facts) is = subst Bytes (sym (flat_map-cons fact_bytes f facts)) (both_fit (fact_bytes f) (flat_map fact_bytes facts) (fact_fits f is.0) (facts_fit facts is.1))

group_fits : (g : Grouped) → IsLawfulGroup g → Bytes (group_bytes g)
unfolding group_bytes
group_fits g is =
    both_fit (number_bytes 8 g.serial) (number_bytes 2 (length g.facts) ++ flat_map fact_bytes g.facts) (number_fits 8 g.serial)
    (both_fit (number_bytes 2 (length g.facts)) (flat_map fact_bytes g.facts) (number_fits 2 (length g.facts)) (facts_fit g.facts is.facts))

frame_fits : (payload : List ℕ) → Bytes payload → Bytes (frame_bytes payload)
frame_fits payload fit =
    both_fit (number_bytes 4 (length payload) ++ payload) (0 ∷ []) (both_fit (number_bytes 4 (length payload)) payload (number_fits 4 (length payload)) fit) (All-cons (λ b. b < 256) 0 [] (omega arith) (All-nil (λ b. b < 256)))

-- the frame of a group that has a spelling
pub body_fits : (g : Grouped) → IsLawfulGroup g → Bytes (frame_bytes (group_bytes g))
body_fits g is = frame_fits (group_bytes g) (group_fits g is)

-- ---- snapshots

proposal_fits : (v : Option Command) → IfSome v IsLawfulCommand → Bytes (proposal_bytes v)
proposal_fits None is = number_fits 1 0
proposal_fits (Some v) is = both_fit (number_bytes 1 1) (command_bytes v) (number_fits 1 1) (command_fits v is)

proposed : (n p r : ℕ) (v : Option Command) → IfSome v (λ c. (coordinator_of r n ≡ p) × IsLawfulCommand c) → IfSome v IsLawfulCommand
proposed n p r None is = tt
proposed n p r (Some v) is = is.1

standing_fits : (n p : ℕ) (s : Standing) → IsLawfulStandingIn Two n p s → Bytes (standing_bytes s)
unfolding standing_bytes open_bytes
standing_fits n p (Decided v) is = both_fit (number_bytes 1 1) (command_bytes v) (number_fits 1 1) (command_fits v is)
standing_fits n p (Open o) is =
    both_fit (number_bytes 1 2) (number_bytes 4 o.round ++ (number_bytes 4 o.stamp ++ (command_bytes o.estimate ++ proposal_bytes o.proposal))) (number_fits 1 2)
    (both_fit (number_bytes 4 o.round) (number_bytes 4 o.stamp ++ (command_bytes o.estimate ++ proposal_bytes o.proposal)) (number_fits 4 o.round)
    (both_fit (number_bytes 4 o.stamp) (command_bytes o.estimate ++ proposal_bytes o.proposal) (number_fits 4 o.stamp)
    (both_fit (command_bytes o.estimate) (proposal_bytes o.proposal) (command_fits o.estimate is.estimate) (proposal_fits o.proposal (proposed n p o.round o.proposal is.proposal)))))

entries_fit : (n p : ℕ) (entries : List Entry) → AllByRecursion (IsLawfulEntryIn Two n p) entries → Bytes (flat_map entry_bytes entries)
unfolding entry_bytes
entries_fit n p [] is = All-nil (λ b. b < 256)
entries_fit n p (e ∷ entries) is =
    subst Bytes (sym (flat_map-cons entry_bytes e entries))
    (both_fit (number_bytes 4 e.instance ++ standing_bytes e.standing) (flat_map entry_bytes entries) (both_fit (number_bytes 4 e.instance) (standing_bytes e.standing) (number_fits 4 e.instance) (standing_fits n p e.standing is.0.standing))
    (entries_fit n p entries is.1))

snapshot_fits : (s : Snapped) → AllByRecursion (IsLawfulEntryIn Two s.nodes s.node) s.entries → Bytes (snapshot_bytes s)
unfolding snapshot_bytes_in owner_bytes contents_bytes
snapshot_fits s is =
    both_fit (number_bytes 1 2 ++ (number_bytes 1 s.node ++ number_bytes 1 s.nodes)) (number_bytes 8 s.epoch ++ (number_bytes 8 s.next ++ (number_bytes 4 (length s.entries) ++ flat_map entry_bytes s.entries)))
    (both_fit (number_bytes 1 2) (number_bytes 1 s.node ++ number_bytes 1 s.nodes) (number_fits 1 2) (both_fit (number_bytes 1 s.node) (number_bytes 1 s.nodes) (number_fits 1 s.node) (number_fits 1 s.nodes)))
    (both_fit (number_bytes 8 s.epoch) (number_bytes 8 s.next ++ (number_bytes 4 (length s.entries) ++ flat_map entry_bytes s.entries)) (number_fits 8 s.epoch)
    (both_fit (number_bytes 8 s.next) (number_bytes 4 (length s.entries) ++ flat_map entry_bytes s.entries) (number_fits 8 s.next)
    (both_fit (number_bytes 4 (length s.entries)) (flat_map entry_bytes s.entries) (number_fits 4 (length s.entries)) (entries_fit s.nodes s.node s.entries is))))

-- the frame of a snapshot whose entries have a spelling
pub snapped_body_fits : (s : Snapped) → AllByRecursion (IsLawfulEntryIn Two s.nodes s.node) s.entries → Bytes (frame_bytes (snapshot_bytes s))
snapped_body_fits s is = frame_fits (snapshot_bytes s) (snapshot_fits s is)

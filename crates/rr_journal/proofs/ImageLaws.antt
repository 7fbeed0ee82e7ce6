-- What a crash leaves of a disk at rest, and how many facts an image holds.
use Rattle.std.proofs.Common.{◌≡◌, ℕ, ◌≤◌, List, [], ◌∷◌, length, map, refl, sym, ap, subst, ◌∙◌, arith}
use Rattle.std.proofs.lemmas.List.{take_all}
use Rattle.rr_types.specs.declared.fact.Fact.{Fact}
use Rattle.rr_disk.specs.declared.area.Area.{Area}
use Rattle.rr_disk.specs.declared.cell.Cell.{Cell}
use Rattle.rr_disk.specs.Areas.{Extent, firm_cell, at_rest, read_of, bytes_of}
use Rattle.rr_disk.specs.Crash.{Agrees, MayLeave, Images, IsCrashImage, restarted}
use Rattle.rr_journal.specs.Image.{Content, Found, Active, Unformatted, found}
use Rattle.rr_journal.specs.Held.{StandsFor, Holds}

firm_bytes : (bytes image : List ℕ) → length bytes ≤ length image → Agrees (map firm_cell bytes) image → image ≡ bytes
firm_bytes [] [] long agrees = refl
firm_bytes [] (b ∷ image) long agrees = absurd agrees
firm_bytes (x ∷ bytes) [] long agrees = absurd (omega arith)
firm_bytes (x ∷ bytes) (b ∷ image) long agrees =
    let rest = firm_bytes bytes image (omega arith) agrees.2 in
    let same : b ≡ x = agrees.1 refl in
    rw (same, rest) refl

-- a crash leaves of an area at rest its bytes
pub left_at_rest : (bytes image : List ℕ) → MayLeave (at_rest bytes) image → image ≡ bytes
left_at_rest bytes image left = firm_bytes bytes image left.no_shorter left.agrees

-- what an image stands for says how many facts it holds
pub facts_held : (n p : ℕ) (images : Images) (facts : List Fact) (area : Area) (c : Content) → found n p images.of_first images.of_second ≡ Active area c → Holds n p images facts → length facts ≡ c.next
facts_held n p images facts area c is holds =
    let stands : StandsFor (Active area c) facts = subst (λ (f : Found). StandsFor f facts) is holds.stands in
    sym stands.1

pub no_facts_held : (n p : ℕ) (images : Images) (facts : List Fact) → found n p images.of_first images.of_second ≡ Unformatted → Holds n p images facts → length facts ≡ 0
no_facts_held n p images facts is holds = subst (λ (f : Found). StandsFor f facts) is holds.stands

-- whatever a crash leaves of a disk at rest holds as many facts as were found
pub facts_after_a_crash : (n p : ℕ) (first second : List ℕ) (images : Images) (facts : List Fact) (area : Area) (c : Content) → found n p first second ≡ Active area c
    → IsCrashImage (restarted (record { of_first = first; of_second = second })) images → Holds n p images facts → length facts ≡ c.next
facts_after_a_crash n p first second images facts area c is left holds =
    let one = left_at_rest first images.of_first left.may_first in
    let two = left_at_rest second images.of_second left.may_second in
    facts_held n p images facts area c (ap (λ (b : List ℕ). found n p b images.of_second) one ∙ ap (λ (b : List ℕ). found n p first b) two ∙ is) holds

-- a read of as many bytes as there are, or of more, gives the area's bytes
pub read_whole : (count : ℕ) (extent : Extent) → length extent.cells ≤ count → read_of 0 count extent ≡ bytes_of extent
read_whole count extent long = ap (λ (cells : List Cell). map (λ (cell : Cell). cell.byte) cells) (take_all count extent.cells long)

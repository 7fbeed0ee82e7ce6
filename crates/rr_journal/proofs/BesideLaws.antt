-- What both areas stand for, whatever stands in the area beside the active one.
use Rattle.std.proofs.Common.{◌≡◌, ℕ, ◌+◌, ◌-◌, Bool, true, false, cond, eqb, leb, ltb, ◌&&◌, List, [], ◌∷◌, length, Ok, refl, ap, ◌∙◌, arith}
use Rattle.std.proofs.lemmas.Bool.{and_parts, ne_eqb, le-ltb, lt-ltb}
use Rattle.std.proofs.lemmas.List.{length-drop}
use Rattle.rr_disk.specs.declared.area.Area.{Area}
use Rattle.rr_disk.specs.declared.area.Area.TheVariants.{First, Second}
use Rattle.rr_disk.specs.Crash.{Images}
use Rattle.rr_frame.specs.declared.version.Version.{Version}
use Rattle.rr_frame.specs.declared.version.Version.TheVariants.{Two}
use Rattle.rr_journal.specs.Moments.{image_of, with_image}
use Rattle.rr_journal.specs.Calls.{must_close}
use Rattle.rr_journal.specs.Image.{Content, Active, Front, Blank, Begins, frame_behind, front_behind, front_of, content_behind, active_in, active, found_by, found}
use Rattle.rr_journal.specs.OtherAreas.{other_area}
use Rattle.rr_journal.proofs.FoundLaws.{fronts, is_active}
use Rattle.rr_journal.proofs.ReadingLaws.{reaches}

-- the active area begins with an open gate
begins_closes : (version : Version) (n p : ℕ) (c : Content) (bytes rest : List ℕ) → front_of n p bytes ≡ Begins version c rest → must_close bytes ≡ true
begins_closes version n p c [] rest e = refl
begins_closes version n p c (g ∷ bytes) rest e = by (eqb g 165 && leb 1 (length bytes)) refl e
  where
    by : (t : Bool) → (eqb g 165 && leb 1 (length bytes)) ≡ t → cond t (front_behind n p (frame_behind bytes)) Blank ≡ Begins version c rest → eqb g 165 ≡ true
    by true t e = (and_parts (eqb g 165) (leb 1 (length bytes)) t).0
    by false t e = absurd cc

pub active_closes : (n p : ℕ) (start : Images) (area : Area) (d : Content) → found n p start.of_first start.of_second ≡ Active area d → must_close (image_of start area) ≡ true
active_closes n p start area d is = let a = is_active Two n p start area d is in begins_closes Two n p a.begin (image_of start area) a.rest a.front

-- groups leave the epoch
same_epoch : (version : Version) (n p : ℕ) (c d : Content) (bytes rest : List ℕ) → front_of n p bytes ≡ Begins version c rest → content_behind version n p c rest ≡ Ok d → d.epoch ≡ c.epoch
unfolding content_behind
same_epoch version n p c d bytes rest front content =
    let begins = fronts version n p c bytes rest front in
    let behind : length rest ≡ length bytes - c.gate = ap (λ (b : List ℕ). length b) begins.rest_is ∙ length-drop c.gate bytes in
    (reaches version (length rest) n p c d rest (omega arith) (omega (arith, behind, begins.there)) content).epoch

-- an area that isn't formatted counts for nothing
pub blank_beside : (version : Version) (n p : ℕ) (start : Images) (area : Area) (d : Content) (image : List ℕ) → found n p start.of_first start.of_second ≡ active_in version area d → front_of n p image ≡ Blank
    → found n p (with_image start (other_area area) image).of_first (with_image start (other_area area) image).of_second ≡ active_in version area d
unfolding found
blank_beside version n p start First d image is blank =
    let a = is_active version n p start First d is in
    ap (λ (f : Front). found_by n p f (front_of n p image)) a.front ∙ ap (λ (f : Front). found_by n p (Begins version a.begin a.rest) f) blank ∙ ap (active version First) a.content
blank_beside version n p start Second d image is blank =
    let a = is_active version n p start Second d is in
    ap (λ (f : Front). found_by n p f (front_of n p start.of_second)) blank ∙ ap (λ (f : Front). found_by n p Blank f) a.front ∙ ap (active version Second) a.content

-- one with the next epoch is active
pub newer_beside : (version : Version) (n p : ℕ) (start : Images) (area : Area) (d c : Content) (image rest : List ℕ) → found n p start.of_first start.of_second ≡ active_in version area d → front_of n p image ≡ Begins Two c rest → c.epoch ≡ d.epoch + 1
    → content_behind Two n p c rest ≡ Ok c → found n p (with_image start (other_area area) image).of_first (with_image start (other_area area) image).of_second ≡ Active (other_area area) c
unfolding found
newer_beside version n p start First d c image rest is front newer content =
    let a = is_active version n p start First d is in
    let epoch = same_epoch version n p a.begin d start.of_first a.rest a.front a.content in
    let differ : eqb a.begin.epoch c.epoch ≡ false = ne_eqb _ _ (λ e. absurd (omega (arith, e, epoch, newer))) in
    let older : ltb c.epoch a.begin.epoch ≡ false = le-ltb _ _ (omega (arith, epoch, newer)) in
    ap (λ (f : Front). found_by n p f (front_of n p image)) a.front ∙ ap (λ (f : Front). found_by n p (Begins version a.begin a.rest) f) front ∙ rw (differ, older) (ap (active Two Second) content)
newer_beside version n p start Second d c image rest is front newer content =
    let a = is_active version n p start Second d is in
    let epoch = same_epoch version n p a.begin d start.of_second a.rest a.front a.content in
    let differ : eqb c.epoch a.begin.epoch ≡ false = ne_eqb _ _ (λ e. absurd (omega (arith, e, epoch, newer))) in
    let older : ltb a.begin.epoch c.epoch ≡ true = lt-ltb _ _ (omega (arith, epoch, newer)) in
    ap (λ (f : Front). found_by n p f (front_of n p start.of_second)) front ∙ ap (λ (f : Front). found_by n p (Begins Two c rest) f) a.front ∙ rw (differ, older) (ap (active Two First) content)

-- Which of two areas is active, by what is told of their first frames alone.
use Rattle.std.specs.Prelude.{ℕ, ◌==◌, ◌&&◌, nat_lt, if◌then◌else◌, Option, None, Some}
use Rattle.rr_disk.specs.declared.area.Area.{Area}
use Rattle.rr_disk.specs.declared.area.Area.TheVariants.{First, Second}
use Rattle.rr_frame.specs.declared.heading.Heading.{Heading}
use Rattle.rr_journal.specs.declared.image.Beginning.{Beginning}
use Rattle.rr_journal.specs.declared.image.Beginning.TheVariants as told
use Rattle.rr_journal.specs.declared.image.Choice.{Choice}
use Rattle.rr_journal.specs.declared.image.Choice.TheVariants as chosen
use Rattle.rr_journal.specs.Image.{Front, Blank, Faulty, Begins, Found, Unformatted, Broken, active, content_behind}

-- what is told of the first frame of an area
abbrev pub beginning_of : Front → Beginning
beginning_of Blank = told.Blank
beginning_of Faulty = told.Faulty
beginning_of (Begins version c rest) = told.Epoch c.epoch

-- the same, of a snapshot with this heading or of none
abbrev pub beginning_with : ℕ → ℕ → Option Heading → Beginning
beginning_with n p None = told.Faulty
beginning_with n p (Some h) = if h.node == p && h.nodes == n then told.Epoch h.epoch else told.Faulty

-- what two areas are that begin so
abbrev pub choice_by : Beginning → Beginning → Choice
choice_by told.Faulty second = chosen.Broken First
choice_by told.Blank told.Faulty = chosen.Broken Second
choice_by told.Blank told.Blank = chosen.Unformatted
choice_by told.Blank (told.Epoch epoch) = chosen.Active Second
choice_by (told.Epoch epoch) told.Faulty = chosen.Broken Second
choice_by (told.Epoch epoch) told.Blank = chosen.Active First
choice_by (told.Epoch epoch) (told.Epoch other) =
    if epoch == other then chosen.Broken Second
    else (if nat_lt other epoch then chosen.Active First else chosen.Active Second)

-- what an area with this first frame stands for where the other one is of no account
abbrev pub found_alone : ℕ → ℕ → Area → Front → Found
found_alone n p area Blank = Unformatted
found_alone n p area Faulty = Broken area 0
found_alone n p area (Begins version c rest) = active version area (content_behind version n p c rest)

-- what two areas with these first frames stand for, once one is chosen
abbrev pub found_chosen : ℕ → ℕ → Front → Front → Choice → Found
found_chosen n p first second chosen.Unformatted = Unformatted
found_chosen n p first second (chosen.Broken area) = Broken area 0
found_chosen n p first second (chosen.Active First) = found_alone n p First first
found_chosen n p first second (chosen.Active Second) = found_alone n p Second second

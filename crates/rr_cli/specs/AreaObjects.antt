-- The areas of a disk as JSON: an object each.
use Rattle.std.specs.Prelude.{ℕ, List, ◌++◌, codes, Option, None, Some}
use Rattle.rr_frame.specs.Versions.{version_number}
use Rattle.rr_journal.specs.declared.inspection.AreaReport.{AreaReport}
use Rattle.rr_json.specs.Json.{number_member, object_line}

-- an area of this number: that it isn't formatted; or its epoch, its node of so many, the number of its next fact, how many
-- commands have decided, and its version
abbrev pub area_object : ℕ → Option AreaReport → List ℕ
area_object number None = object_line (codes "unformatted") (number_member (codes "area") number)
area_object number (Some r) =
    object_line (codes "area")
    (number_member (codes "area") number ++ number_member (codes "epoch") r.epoch ++ number_member (codes "node") r.node
    ++ number_member (codes "nodes") r.nodes ++ number_member (codes "facts") r.next
    ++ number_member (codes "decided") r.decided ++ number_member (codes "version") (version_number r.version))

-- both areas
abbrev pub areas_objects : Option AreaReport → Option AreaReport → List ℕ
areas_objects first second = area_object 0 first ++ area_object 1 second

-- The texts of a cluster's file and of the file in a node's folder: words, divided by one space, and a line feed.
use Rattle.std.specs.Prelude.{ℕ, ◌==◌, if◌then◌else◌, List, [], ◌∷◌, ◌++◌, Option, None, Some, codes, decimal}
use Rattle.rr_text.specs.Words.{set_text}
use Rattle.rr_folders.specs.declared.cluster.Identity.{Identity}
use Rattle.rr_folders.specs.declared.cluster.Cluster.{Cluster}
use Rattle.rr_folders.specs.declared.cluster.Mark.{Mark}
use Rattle.rr_folders.specs.declared.cluster.Digest.{Digest}
use Rattle.rr_folders.specs.declared.cluster.Reached.{Reached}
use Rattle.rr_folders.specs.declared.cluster.Course.{Course}

-- what stands before the line of either: how often nodes were replaced; nothing where none was
abbrev pub replaced_front : ℕ → List ℕ
replaced_front replaced = if replaced == 0 then [] else codes "replaced" ++ 32 ∷ (decimal replaced ++ 32 ∷ [])

-- what both begin with else: what file it is and its version, and which cluster; then more
abbrev pub headed : List ℕ → Identity → List ℕ → List ℕ
headed word i rest = word ++ 32 ∷ (decimal i.first ++ 32 ∷ (decimal i.second ++ 32 ∷ rest))

-- the line of a cluster's file: the number of nodes, and those that have been formatted
abbrev pub cluster_line : Cluster → List ℕ
cluster_line c = headed (codes "cluster-1") c.identity (decimal c.nodes ++ 32 ∷ set_text c.formatted)

abbrev pub cluster_text : Cluster → List ℕ
cluster_text c = replaced_front c.replaced ++ (cluster_line c ++ 10 ∷ [])

abbrev pub digest_words : Digest → List ℕ
digest_words d = decimal d.first ++ 32 ∷ (decimal d.second ++ 32 ∷ (decimal d.third ++ 32 ∷ decimal d.fourth))

-- how far an area came: epoch, length and digest
abbrev pub reached_words : Reached → List ℕ
reached_words r = decimal r.epoch ++ 32 ∷ (decimal r.length ++ 32 ∷ digest_words r.digest)

-- what a mark begins with that says how far the node's active area came
abbrev pub far_words : Identity → Course → List ℕ
far_words i c = headed (codes "node-2") i (reached_words c.from ++ 32 ∷ reached_words c.to)

-- what it begins with else
abbrev pub plain_words : Identity → List ℕ
plain_words i = codes "node-1" ++ 32 ∷ (decimal i.first ++ 32 ∷ decimal i.second)

abbrev pub mark_head : Identity → Option Course → List ℕ
mark_head i None = plain_words i
mark_head i (Some c) = far_words i c

-- the line of the file in a node's folder: that, and the node
abbrev pub mark_line : Mark → List ℕ
mark_line m = mark_head m.identity m.course ++ 32 ∷ decimal m.node

abbrev pub mark_text : Mark → List ℕ
mark_text m = replaced_front m.replaced ++ (mark_line m ++ 10 ∷ [])

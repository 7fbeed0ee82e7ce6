-- Reading the words of these files from left to right: what each reader of the code gives.
use Rattle.std.specs.Prelude.{ℕ, ◌==◌, if◌then◌else◌, List, [], ◌∷◌, codes, Option, None, Some}
use Rattle.std.specs.Str.{bytes_eq}
use Rattle.rr_text.specs.Reading.{◌>>=◌, cut_at, number_at, nodes_at, set_at}
use Rattle.rr_text.specs.Reading.{node_at as node_of_at}
use Rattle.rr_folders.specs.declared.cluster.Identity.{Identity}
use Rattle.rr_folders.specs.declared.cluster.Cluster.{Cluster}
use Rattle.rr_folders.specs.declared.cluster.Mark.{Mark}
use Rattle.rr_folders.specs.declared.cluster.Digest.{Digest}
use Rattle.rr_folders.specs.declared.cluster.Reached.{Reached}

-- the text before a line feed, where nothing stands behind that
abbrev pub line_from : List ℕ × List ℕ → Option (List ℕ)
line_from (text, []) = Some text
line_from (text, b ∷ bs) = None

-- the text of the only line
abbrev pub line_at : List ℕ → Option (List ℕ)
line_at bytes = cut_at 10 bytes >>= line_from

-- a cluster's identity, and the text behind it
abbrev pub identity_at : List ℕ → Option (Identity × List ℕ)
identity_at text =
    cut_at 32 text >>= λ a.
    number_at a.0 >>= λ first.
    cut_at 32 a.1 >>= λ b.
    number_at b.0 >>= λ second.
    Some (record { first = first; second = second }, b.1)

-- an identity behind the word that says what file it is
abbrev pub head_at : List ℕ → List ℕ → Option (Identity × List ℕ)
head_at word text = cut_at 32 text >>= λ w. if bytes_eq w.0 word then identity_at w.1 else None

-- a number of nodes
abbrev pub count_at : List ℕ → Option ℕ
count_at w = nodes_at w

-- a node
abbrev pub node_at : List ℕ → Option ℕ
node_at w = node_of_at 7 w

-- a number, and the text behind it
abbrev pub number_then_at : List ℕ → Option (ℕ × List ℕ)
number_then_at text = cut_at 32 text >>= λ w. number_at w.0 >>= λ n. Some (n, w.1)

-- how often nodes were replaced, and the text behind that: the number behind its word, which isn't 0, or 0 where the word isn't there
abbrev pub replaced_at : List ℕ → Option (ℕ × List ℕ)
replaced_at text =
    cut_at 32 text >>= λ w.
    if bytes_eq w.0 (codes "replaced") then (number_then_at w.1 >>= λ n. if n.0 == 0 then None else Some n) else Some (0, text)

-- the line of a cluster's file, in front of which it said how often nodes were replaced
abbrev pub cluster_line_at : ℕ × List ℕ → Option Cluster
cluster_line_at x =
    head_at (codes "cluster-1") x.1 >>= λ h.
    cut_at 32 h.1 >>= λ w.
    count_at w.0 >>= λ n.
    set_at n w.1 >>= λ s.
    Some (record { identity = h.0; nodes = n; formatted = s; replaced = x.0 })

-- a cluster's file
abbrev pub cluster_at : List ℕ → Option Cluster
cluster_at bytes = line_at bytes >>= λ text. replaced_at text >>= cluster_line_at

-- a digest, and the text behind it
abbrev pub digest_at : List ℕ → Option (Digest × List ℕ)
digest_at text =
    number_then_at text >>= λ a.
    number_then_at a.1 >>= λ b.
    number_then_at b.1 >>= λ c.
    number_then_at c.1 >>= λ d.
    Some (record { first = a.0; second = b.0; third = c.0; fourth = d.0 }, d.1)

-- how far an area came, and the text behind it
abbrev pub reached_at : List ℕ → Option (Reached × List ℕ)
reached_at text =
    number_then_at text >>= λ e.
    number_then_at e.1 >>= λ l.
    digest_at l.1 >>= λ d.
    Some (record { epoch = e.0; length = l.0; digest = d.0 }, d.1)

-- the file in the folder of a node that had been replaced so often, of a line that doesn't say how far it came
abbrev pub plain_mark_at : ℕ → List ℕ → Option Mark
plain_mark_at replaced text =
    head_at (codes "node-1") text >>= λ h.
    node_at h.1 >>= λ p.
    Some (record { identity = h.0; node = p; course = None; replaced = replaced })

-- the same, of a line that does
abbrev pub far_mark_at : ℕ → List ℕ → Option Mark
far_mark_at replaced text =
    head_at (codes "node-2") text >>= λ h.
    reached_at h.1 >>= λ a.
    reached_at a.1 >>= λ b.
    node_at b.1 >>= λ p.
    Some (record { identity = h.0; node = p; course = Some (record { from = a.0; to = b.0 }); replaced = replaced })

-- the first of two marks
abbrev pub mark_or : Option Mark → Option Mark → Option Mark
mark_or None other = other
mark_or (Some m) other = Some m

-- either line, in front of which it said how often the node had been replaced
abbrev pub mark_line_at : ℕ × List ℕ → Option Mark
mark_line_at x = mark_or (plain_mark_at x.0 x.1) (far_mark_at x.0 x.1)

-- the file in a node's folder
abbrev pub mark_at : List ℕ → Option Mark
mark_at bytes = line_at bytes >>= λ text. replaced_at text >>= mark_line_at

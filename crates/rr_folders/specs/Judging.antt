-- Whether the folders of a cluster may be opened, by what was found in each, from node 0 on.
use Rattle.std.specs.Prelude.{◌≡◌, ◌⊎◌, ◌||◌, nat_lt, ℕ, suc, ◌+◌, ◌*◌, ◌^◌, ◌<◌, ◌≤◌, ◌==◌, ◌&&◌, if◌then◌else◌, is_none, Bool, true, false, List, [], ◌∷◌, Option, None, Some}
use Rattle.std.specs.List.{list_all}
use Rattle.rr_types.specs.Nodes.{has_member, with_member}
use Rattle.rr_folders.specs.declared.cluster.Identity.{Identity}
use Rattle.rr_folders.specs.declared.cluster.Cluster.{Cluster}
use Rattle.rr_folders.specs.declared.cluster.Mark.{Mark}
use Rattle.rr_folders.specs.declared.cluster.Reached.{Reached}
use Rattle.rr_folders.specs.declared.cluster.Course.{Course}
use Rattle.rr_folders.specs.declared.front.Content.{Content}
use Rattle.rr_folders.specs.declared.front.Content.TheVariants as contents
use Rattle.rr_folders.specs.declared.judging.Found.{Found}
use Rattle.rr_folders.specs.declared.judging.Past.{Past}
use Rattle.rr_folders.specs.declared.judging.Owner.{Owner}
use Rattle.rr_folders.specs.declared.judging.Fault.{Fault}
use Rattle.rr_folders.specs.declared.judging.Fault.TheVariants.{Missing, Blank, Cut, OtherNode, OtherNodes, OtherCluster, Unmarked, Older, Shorter, Altered, Outdated, Replaced, LeftOut, Unfounded}
use Rattle.rr_folders.specs.declared.judging.Verdict.{Verdict}
use Rattle.rr_folders.specs.declared.judging.Verdict.TheVariants.{Open, Begin, TakeOn, Refused}
use Rattle.rr_folders.specs.Clusters.{same_identity, reaches, is_behind, times_in}

-- ---- one folder

-- what the file in node p's folder has against it: it names another cluster, or another node
abbrev pub mark_fault : Identity → ℕ → Option Mark → Option Fault
mark_fault i p None = None
mark_fault i p (Some m) = if same_identity m.identity i then (if m.node == p then None else Some (OtherNode m.node)) else Some OtherCluster

-- what the areas have against it, if the disk is to be node p's of n: it is another node's
abbrev pub owner_fault : ℕ → ℕ → Content → Option Fault
owner_fault n p (contents.Holds q m) = if m == n then (if q == p then None else Some (OtherNode q)) else Some (OtherNodes m)
owner_fault n p content = None

-- what they have against it if the node has been formatted: its disk is gone, blank or cut
abbrev pub loss_fault : Content → Option Fault
loss_fault contents.Absent = Some Missing
loss_fault contents.Blank = Some Blank
loss_fault contents.Cut = Some Cut
loss_fault (contents.Holds q m) = None

-- that a node was replaced since its folder was marked, by the sum for all nodes
abbrev pub stale_fault : ℕ → ℕ → Option Mark → Option Fault
stale_fault replaced p None = None
stale_fault replaced p (Some m) = if nat_lt m.replaced (times_in replaced p) then Some Replaced else None

-- that nobody has marked it, where each node of the cluster has marked its own; or that the node was replaced since. Without a cluster's
-- file, neither is known
abbrev pub past_fault : Option Past → ℕ → Option Mark → Option Fault
past_fault None p mark = None
past_fault (Some past) p None = Some Unmarked
past_fault (Some past) p (Some m) = stale_fault past.replaced p (Some m)

-- the first of two faults
infixl 10 ◌or_else◌
abbrev pub ◌or_else◌ : Option Fault → Option Fault → Option Fault
(Some x) or_else y = Some x
None or_else y = y

-- how far a folder's mark says that its active area came
abbrev pub course_of : Option Mark → Option Course
course_of None = None
course_of (Some m) = m.course

-- what an area of the marked epoch that isn't as far as marked has against it: fewer bytes, or others
abbrev pub lapse_of : Reached → Reached → Fault
lapse_of r to = if nat_lt r.length to.length then Shorter else Altered

-- what an active area that came this far has against it: it isn't the marked one, or not as far
abbrev pub lapse_fault : Course → Reached → Option Fault
lapse_fault c r =
    if reaches r c.from || reaches r c.to then None
    else (if r.epoch == c.to.epoch then Some (lapse_of r c.to) else (if r.epoch == c.from.epoch then Some (lapse_of r c.from) else Some Older))

-- that a disk forgot what its folder's mark says: its active area isn't as far
abbrev pub forgetful_fault : Option Course → Option Reached → Option Fault
forgetful_fault None active = None
forgetful_fault (Some c) None = Some Older
forgetful_fault (Some c) (Some r) = lapse_fault c r

-- what a mark has against it of which it was noted once how far it says that the disk came: it isn't as far any more
abbrev pub lag_fault : Option Course → Option Course → Option Fault
lag_fault None far = None
lag_fault (Some n) None = Some Outdated
lag_fault (Some n) (Some c) = if is_behind c.to n.from then Some Outdated else None

-- what a mark has against it of which another one was noted: it is of a folder from before a replacement, or not as far. One from behind a
-- replacement is of another disk, and further
abbrev pub noted_fault : Mark → Mark → Option Fault
noted_fault n m =
    if nat_lt m.replaced n.replaced then Some Outdated else (if m.replaced == n.replaced then lag_fault n.course m.course else None)

-- that a folder is older than what was noted of it: its mark is behind the one that was noted of the same cluster
abbrev pub outdated_fault : Option Mark → Option Mark → Option Fault
outdated_fault None mark = None
outdated_fault (Some n) None = None
outdated_fault (Some n) (Some m) = if same_identity n.identity m.identity then noted_fault n m else None

-- a fault, where there is another one as well
infixl 11 ◌if_also◌
abbrev pub ◌if_also◌ : Option Fault → Option Fault → Option Fault
None if_also y = None
(Some x) if_also None = None
(Some x) if_also (Some y) = Some x

-- that a folder is older than what was noted of it: its mark is behind that, and its active area isn't as far either
abbrev pub older_fault : Found → Option Fault
older_fault f = outdated_fault f.noted f.mark if_also forgetful_fault (course_of f.noted) f.by_note

-- that a node forgot something, by its folder's mark or by what was noted of that
abbrev pub memory_fault : Found → Option Fault
memory_fault f = forgetful_fault (course_of f.mark) f.active or_else older_fault f

-- what is lost of a node: nothing while it is being formatted. Without a cluster's file, each node counts as formatted
abbrev pub disk_fault : Option Past → ℕ → Found → Option Fault
disk_fault None p f = loss_fault f.content or_else memory_fault f
disk_fault (Some past) p f =
    if has_member past.formatted p then ((loss_fault f.content or_else past_fault (Some past) p f.mark) or_else memory_fault f) else None

-- what is wrong with the folder of node p of n
abbrev pub fault_of : Identity → ℕ → Option Past → ℕ → Found → Option Fault
fault_of i n past p f = (mark_fault i p f.mark or_else owner_fault n p f.content) or_else disk_fault past p f

-- that a disk isn't as far as its node left it: the folder is an older copy
abbrev pub as_outdated : Option Fault → Option Fault
as_outdated None = None
as_outdated (Some x) = Some Outdated

-- the past of a node that has been formatted, where nodes were replaced so often
abbrev pub own_past : Owner → Past
own_past o = record { formatted = with_member 0 o.node; replaced = o.replaced }

-- what is wrong with the folder of a node that starts again: what it would be at an opening, the node being formatted; or its active
-- area, which reaches this far, isn't as far as the node left it
abbrev pub return_fault : Owner → Found → Option Course → Option Reached → Option Fault
return_fault o f left reached = fault_of o.identity o.nodes (Some (own_past o)) o.node f or_else as_outdated (forgetful_fault left reached)

-- ---- all folders. At the place of a node whose folder is left out stands nothing

-- the places from p on at which nothing stands are those of a set of nodes
abbrev pub AreLeftOut : {A : Type 0} → ℕ → ℕ → List (Option A) → Type 0
AreLeftOut without p [] = Unit {0}
AreLeftOut without p (x ∷ xs) = (has_member without p ≡ is_none x) × AreLeftOut without (p + 1) xs

-- the first node whose folder is left out, from node p on
abbrev pub first_left_out : ℕ → List (Option Found) → Option ℕ
first_left_out p [] = None
first_left_out p (None ∷ fs) = Some p
first_left_out p (Some f ∷ fs) = first_left_out (p + 1) fs

-- the first node whose folder isn't, from node p on; node 0 where all are
abbrev pub first_there : ℕ → List (Option Found) → ℕ
first_there p [] = 0
first_there p (None ∷ fs) = first_there (p + 1) fs
first_there p (Some f ∷ fs) = p

-- how many folders aren't left out
abbrev pub count_there : List (Option Found) → ℕ
count_there [] = 0
count_there (None ∷ fs) = count_there fs
count_there (Some f ∷ fs) = suc (count_there fs)

-- what n nodes have against a start with only so many of their folders: not each has been formatted, or those are no majority
abbrev pub leave_fault : ℕ → ℕ → ℕ → Option Fault
leave_fault n formatted count = if formatted + 1 == 2 ^ n then (if nat_lt n (2 * count) then None else Some LeftOut) else Some Unfounded

-- a fault of the first node that is left out, if one is
abbrev pub left_out_with : Option ℕ → Option Fault → Option (ℕ × Fault)
left_out_with None x = None
left_out_with (Some p) None = None
left_out_with (Some p) (Some x) = Some (p, x)

-- what is wrong with the folder at the place of node p of n. One that is left out isn't looked at
abbrev pub fault_at : Identity → ℕ → Option Past → ℕ → Option Found → Option Fault
fault_at i n past p None = None
fault_at i n past p (Some f) = fault_of i n past p f

-- this fault of node p's folder; where there is none, another folder's
abbrev pub at_or : ℕ → Option Fault → Option (ℕ × Fault) → Option (ℕ × Fault)
at_or p (Some x) other = Some (p, x)
at_or p None other = other

-- the first folder that has a fault, from node p on
abbrev pub first_fault : Identity → ℕ → Option Past → ℕ → List (Option Found) → Option (ℕ × Fault)
first_fault i n past p [] = None
first_fault i n past p (f ∷ fs) = at_or p (fault_at i n past p f) (first_fault i n past (p + 1) fs)

-- a refusal for that folder; where there is none, this verdict
abbrev pub refused_or : Option (ℕ × Fault) → Verdict → Verdict
refused_or (Some x) v = Refused x.0 x.1
refused_or None v = v

-- whether a folder has no disk
abbrev pub is_blank : Content → Bool
is_blank contents.Absent = true
is_blank contents.Blank = true
is_blank (contents.Cut) = false
is_blank (contents.Holds q m) = false

-- whether nobody has marked a folder
abbrev pub is_unmarked : Option Mark → Bool
is_unmarked None = true
is_unmarked (Some m) = false

-- whether a folder has neither a disk nor a mark
abbrev pub is_fresh : Found → Bool
is_fresh f = is_blank f.content && is_unmarked f.mark

-- whether the folder at a place is known to have neither
abbrev pub is_fresh_at : Option Found → Bool
is_fresh_at None = false
is_fresh_at (Some f) = is_fresh f

-- the cluster that a folder names by its mark, else another
abbrev pub marked_or : Option Mark → Option Identity → Option Identity
marked_or None other = other
marked_or (Some m) other = Some m.identity

-- the cluster that the first marked folder names
abbrev pub first_identity : List (Option Found) → Option Identity
first_identity [] = None
first_identity (None ∷ fs) = first_identity fs
first_identity (Some f ∷ fs) = marked_or f.mark (first_identity fs)

-- ---- the verdict

-- the past of a cluster's nodes
abbrev pub past_of : Cluster → Past
past_of c = record { formatted = c.formatted; replaced = c.replaced }

-- by the folders of a cluster of n nodes, with its file
abbrev pub verdict_by_nodes : ℕ → Cluster → List (Option Found) → Verdict
verdict_by_nodes n c found = refused_or (first_fault c.identity n (Some (past_of c)) 0 found) (Open c)

-- by the cluster's file, where so many nodes are asked for: folders are left out only where each node has been formatted, and a majority is
-- there
abbrev pub verdict_by_file : ℕ → Cluster → List (Option Found) → Verdict
verdict_by_file n c found =
    if c.nodes == n then refused_or (left_out_with (first_left_out 0 found) (leave_fault n c.formatted (count_there found))) (verdict_by_nodes n c found)
    else Refused (first_there 0 found) (OtherNodes c.nodes)

-- an identity, or that of no cluster
abbrev pub identity_or : Option Identity → Identity
identity_or None = record { first = 0; second = 0 }
identity_or (Some i) = i

-- by folders without a cluster's file: a new cluster where none has a disk or a mark, else one that is taken on if its folders agree
abbrev pub verdict_by_all : ℕ → List (Option Found) → Verdict
verdict_by_all n found =
    if list_all is_fresh_at found then Begin
    else refused_or (first_fault (identity_or (first_identity found)) n None 0 found) (TakeOn (first_identity found))

-- the same where folders may be left out: then no cluster begins, and none is taken on
abbrev pub verdict_by_folders : ℕ → List (Option Found) → Verdict
verdict_by_folders n found = refused_or (left_out_with (first_left_out 0 found) (Some Unfounded)) (verdict_by_all n found)

-- whether so many nodes may be opened
abbrev pub verdict_of : ℕ → Option Cluster → List (Option Found) → Verdict
verdict_of n (Some c) found = verdict_by_file n c found
verdict_of n None found = verdict_by_folders n found

-- ---- what a verdict guards

-- a fact of each folder that isn't left out, from node p on
abbrev pub Each : (ℕ → Found → Type 0) → ℕ → List (Option Found) → Type 0
Each P p [] = Unit {0}
Each P p (None ∷ fs) = Each P (p + 1) fs
Each P p (Some f ∷ fs) = P p f × Each P (p + 1) fs

-- a folder with the disk of node p of n
abbrev pub HasDisk : ℕ → ℕ → Found → Type 0
HasDisk n p f = f.content ≡ contents.Holds p n

-- a folder that is marked as node p's of a cluster, no less often replaced than the sum for all nodes says
abbrev pub IsMarked : Identity → ℕ → ℕ → Found → Type 0
IsMarked i replaced p f =
    (far : Option Course) × (times : ℕ) × (times_in replaced p ≤ times) × (f.mark ≡ Some (record { identity = i; node = p; course = far; replaced = times }))

-- an active area came as far as it is to
abbrev pub IsAsFar : Option Course → Option Reached → Type 0
IsAsFar None active = Unit {0}
IsAsFar (Some c) active = (r : Reached) × (active ≡ Some r) × ((r ≡ c.from) ⊎ (r ≡ c.to))

-- a mark that says how far a disk came is as far as was noted
abbrev pub IsAsNoted : Option Course → Option Course → Type 0
IsAsNoted None far = Unit {0}
IsAsNoted (Some n) None = ⊥
IsAsNoted (Some n) (Some c) = is_behind c.to n.from ≡ false

-- a mark isn't behind the one that was noted of the same cluster: it isn't from before a replacement, and as far where it is of one disk
abbrev pub IsNotBehind : Option Mark → Option Mark → Type 0
IsNotBehind None mark = Unit {0}
IsNotBehind (Some n) None = Unit {0}
IsNotBehind (Some n) (Some m) =
    same_identity n.identity m.identity ≡ true → (n.replaced ≤ m.replaced) × (m.replaced ≡ n.replaced → IsAsNoted n.course m.course)

-- a folder whose active area came as far as its mark says, and of which the mark or the active area came as far as was noted
abbrev pub KeepsItsMark : Found → Type 0
KeepsItsMark f = IsAsFar (course_of f.mark) f.active × (IsNotBehind f.noted f.mark ⊎ IsAsFar (course_of f.noted) f.by_note)

-- a node that has been formatted has its disk, its folder bears its mark, of no time before the node was replaced last, and the disk came as
-- far as that says
abbrev pub KeepsItsDisk : Cluster → ℕ → Found → Type 0
KeepsItsDisk c p f = has_member c.formatted p ≡ true → HasDisk c.nodes p f × IsMarked c.identity c.replaced p f × KeepsItsMark f

-- a folder without a disk and without a mark: no node was ever in it
abbrev pub IsFresh : ℕ → Found → Type 0
IsFresh p f = (is_blank f.content ≡ true) × (f.mark ≡ None)

-- a majority of n nodes is there, and where one isn't, each has been formatted
pub record IsServed (n formatted : ℕ) (found : List (Option Found)) : Type 0 where
  pub majority : n < 2 * count_there found
  pub all : (p : ℕ) → first_left_out 0 found ≡ Some p → formatted + 1 ≡ 2 ^ n

-- what may be relied on: a cluster is opened only as what its file says, with a majority of its nodes' folders; nodes are begun only where no
-- folder has a disk or a mark; and a cluster without a file is taken on only where each folder has its node's disk, as far as its mark
-- says. For these two no folder is left out
abbrev pub Guards : ℕ → Option Cluster → List (Option Found) → Verdict → Type 0
Guards n None found (Open d) = ⊥
Guards n (Some c) found (Open d) = (d ≡ c) × (c.nodes ≡ n) × IsServed n c.formatted found × Each (KeepsItsDisk c) 0 found
Guards n (Some c) found Begin = ⊥
Guards n None found Begin = (first_left_out 0 found ≡ None) × Each IsFresh 0 found
Guards n (Some c) found (TakeOn i) = ⊥
Guards n None found (TakeOn i) = (first_left_out 0 found ≡ None) × Each (λ p f. HasDisk n p f × KeepsItsMark f) 0 found
Guards n file found (Refused p x) = Unit {0}

-- ---- a node that starts again

-- a node may come back to a folder: it has the node's disk and its mark, the disk is as far as the mark says, the mark or the disk as far as
-- was noted, and the active area, which reaches this far, is as far as the node left it
pub record MayReturn (o : Owner) (f : Found) (left : Option Course) (reached : Option Reached) : Type 0 where
  pub disk : HasDisk o.nodes o.node f
  pub mark : IsMarked o.identity o.replaced o.node f
  pub keeps : KeepsItsMark f
  pub far : IsAsFar left reached

-- How a sync of one area ends.
use Rattle.std.proofs.Common.{◌≡◌, true, false, Result, Ok, Err, sym, subst}
use Rattle.std.specs.Result.{is_ok, is_err, OnOk, OnErr}
use Rattle.rr_disk.specs.Asked.{Call, syncs, WritesBack}
use Rattle.rr_disk.specs.Files.{Held, HeldSync, needed, failing, behind, failing_behind, stopped}

module _ {F E : Type 0} (gives : F → Call → F → Type 0) where
  -- writing back stopped at a call that failed
  pub stops : (old : Held F) (file : F) (back : Result (Unit {0}) E) → is_err back ≡ true → WritesBack gives old.len (is_ok back) 0 old.file file → HeldSync gives true (is_ok back) old (record old { file = file })
  stops old file (Ok u) failed did = absurd (cc)
  stops old file (Err e) failed did = stopped old file did

  -- all was written back, and then the file was synced or not
  pub is_behind : (old new : Held F) (mid : F) (back r : Result (Unit {0}) E) → is_err back ≡ false → WritesBack gives old.len (is_ok back) 0 old.file mid → gives mid (syncs (is_ok r)) new.file
      → OnOk r (new ≡ record old { file = new.file; unsynced = false }) → OnErr r (new ≡ record old { file = new.file }) → HeldSync gives true (is_ok r) old new
  is_behind old new mid (Err e) r fine did asked ok err = absurd (cc)
  is_behind old new mid (Ok u) (Ok v) fine did asked ok err = subst (λ (n : Held F). HeldSync gives true true old n) (sym ok) (behind old mid new.file did asked)
  is_behind old new mid (Ok u) (Err e) fine did asked ok err = subst (λ (n : Held F). HeldSync gives true false old n) (sym err) (failing_behind old mid new.file did asked)

  -- the file was synced or not
  pub is_needed : (old new : Held F) (r : Result (Unit {0}) E) → old.unsynced ≡ true → gives old.file (syncs (is_ok r)) new.file
      → OnOk r (new ≡ record old { file = new.file; unsynced = false }) → OnErr r (new ≡ record old { file = new.file }) → HeldSync gives false (is_ok r) old new
  is_needed old new (Ok v) there asked ok err = subst (λ (n : Held F). HeldSync gives false true old n) (sym ok) (needed old new.file there asked)
  is_needed old new (Err e) there asked ok err = subst (λ (n : Held F). HeldSync gives false false old n) (sym err) (failing old new.file there asked)

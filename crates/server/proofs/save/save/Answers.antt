use Prim.Native.Nat.{◌≤◌}
use mathlib.Core.Path.{◌≡◌, ap, ◌∙◌}
use mathlib.Core.List.{[]}
use native.Mathlib.Omega.{arith}
use lib.ListN.{length}
use Rattle.server.proofs.Replied.{unwritten, shown-refused, shown-done, save-shows, save-outcome}
use Rattle.server.proofs.save.save.Goals.{After-slice_known-2-1, then-buffer-lt-MOST_SAVED+else-buffer-length, else-buffer-lt-MOST_SAVED}
use Rattle.server.proofs.save.save.Goals as goal

-- The saved text of all fields is written if it fits: no text is longer than the buffer, or it was measured.

-- where the ways meet, the buffer is as it was lent, and the text that is then written fits
met : (c : After-slice_known-2-1)
    → let buffer = c.args.buffer.now in
    (c.if-buffer-lt-MOST_SAVED.buffer ≡ buffer) × (c.put_saved-length-2.result ≤ length buffer)
met c =
    let text = c.put_saved-length-2.ensures in
    elim c.if-buffer-lt-MOST_SAVED.branch [
      | then-buffer-lt-MOST_SAVED+else-buffer-length w ↦
          let measured = w.put_saved-length.ensures.wrote in
          let kept = w.buffer-is ∙ unwritten _ _ measured in
          (kept, omega (arith, ap length kept, ap length w.buffer-is, measured.0, c.put_saved-length-2.ensures.wrote.0, w.if-buffer-length.false))
      | else-buffer-lt-MOST_SAVED w ↦ (w.buffer-is, omega (arith, w.if-buffer-lt-MOST_SAVED.false, c.put_saved-length-2.ensures.upper_bound))
    ]

pub returns-then-buffer-length : goal.returns-then-buffer-length
returns-then-buffer-length c tables logins =
    let a = c.args in
    let shows = save-shows tables logins a.fields.now a.buffer.now in
    let kept = unwritten _ _ c.put_saved-length.ensures.wrote in
    save-outcome tables logins a.fields.now a.buffer.now (shown-refused _ _ shows [] _ _ kept c.put_saved-length.ensures.wrote c.if-buffer-length.true)

pub shape_of-buffer : goal.shape_of-buffer
shape_of-buffer c = c.put_saved-length-2.auto.out ∙ ap length (met c).0

pub returns : goal.returns
returns c tables logins =
    let a = c.args in
    let shows = save-shows tables logins a.fields.now a.buffer.now in
    save-outcome tables logins a.fields.now a.buffer.now (shown-done _ _ shows [] _ _ (met c).0 c.put_saved-length-2.ensures.wrote (met c).1)

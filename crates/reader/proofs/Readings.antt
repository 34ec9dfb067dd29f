-- What a text says of itself as a record, by its tree.
use Prim.Native.Nat.{ℕ}
use mathlib.Core.Path.{◌≡◌, sym, ap, ◌∙◌}
use mathlib.Core.Bool.{Bool, true, false}
use Rattle.std.specs.Prelude.{None, Some}
use Rattle.model.specs.Base.{Bytes}
use Rattle.model.specs.RecordText.{Members, tree_of}
use Rattle.model.specs.Refusals.{refused, done, ◌>>=◌, ◌>>◌, refuse◌if◌, ◌or◌}
use Rattle.reader.specs.Summaries.{summary, reading_of}

pub reading-none : (s : Bytes) → tree_of s ≡ None → refused 8 ≡ reading_of s
unfolding reading_of ◌or◌ ◌>>=◌
reading-none s h = rw h

module _ (s : Bytes) (m : Members) (h : tree_of s ≡ Some m) (fields : ℕ) (doubled : Bool) (is : summary m ≡ (fields, doubled)) where
  reading : reading_of s ≡ ((refuse 6 if doubled) >> done fields)
  unfolding reading_of summary ◌or◌ ◌>>=◌
  reading = rw h (ap (λ (x : ℕ × Bool). (refuse 6 if x.1) >> done x.0) is)

  pub reading-twice : doubled ≡ true → refused 6 ≡ reading_of s
  unfolding refuse◌if◌ ◌>>◌
  reading-twice e = sym (reading ∙ rw e)

  pub reading-fields : doubled ≡ false → done fields ≡ reading_of s
  unfolding refuse◌if◌ ◌>>◌
  reading-fields e = sym (reading ∙ rw e)

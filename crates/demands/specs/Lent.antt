-- What is known of a reading of lent bytes.
use Rattle.std.specs.Prelude.{ℕ, ◌≡◌, List}
use Rattle.record.specs.declared.reading.Reading.{Reading}
use Rattle.record.specs.Dateless.{record_of}
use Rattle.record.specs.Reading.{read_of}

-- it is what reading gives, and where the bytes are accepted they are what writing their message
-- gives
pub record ReadsLent (bytes : List ℕ) (r : Reading) : Type 0 where
  pub reads : r ≡ read_of bytes
  pub is_written : r.answer ≡ 0 → record_of r.message ≡ bytes

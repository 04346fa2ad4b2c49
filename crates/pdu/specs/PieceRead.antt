-- Document 00, demand 2: a piece is read as it was written.
use Rattle.std.specs.Prelude.{◌≡◌, List, ℕ, ◌+◌, length, get_or, take, drop}
use Rattle.crc.specs.Crc.{crc_from}
use Rattle.layout.specs.Locators.{locator_at}
use Rattle.layout.specs.declared.ControlWord.{ControlWord}
use Rattle.pdu.specs.Reading.{start_at, length_at}

-- piece k of a PDU is read as it was written, and the byte after it, at its locator, is its CRC, by the register that it starts with
pub record PieceRead (register width : ℕ) (c : ControlWord) (y : List ℕ) (k : ℕ) (piece : List ℕ) : Type 0 where
  pub size : length_at width c y k ≡ length piece
  pub bytes : take (length_at width c y k) (drop (start_at width c y k) y) ≡ piece
  pub ends : locator_at width y k ≡ start_at width c y k + length_at width c y k
  pub crc : get_or y (locator_at width y k) 0 ≡ crc_from register piece

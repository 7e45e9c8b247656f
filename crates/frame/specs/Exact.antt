-- To be believed: which runs are a frame (V.8 bis 7.2.3), and of which information.
-- Assumes nothing.
use Rattle.std.specs.Prelude.{ℕ, ◌≤◌, Bool, List, ◌≡◌, length}
use Rattle.octets.specs.Bits.{AreOctets}
use Rattle.frame.specs.Limits.{most_information, fewest_opening, most_opening, fewest_closing, most_closing}
use Rattle.frame.specs.Frame.{frame}

-- the bits bs are a frame of the information, with opening and closing flags in numbers that 7.2.5 allows
pub record IsFrame (bs : List Bool) (info : List ℕ) : Type 0 where
  pub octets : AreOctets info
  pub some : 1 ≤ length info
  pub few : length info ≤ most_information
  pub opening : ℕ
  pub enough_opening : fewest_opening ≤ opening
  pub few_opening : opening ≤ most_opening
  pub closing : ℕ
  pub enough_closing : fewest_closing ≤ closing
  pub few_closing : closing ≤ most_closing
  pub bits : bs ≡ frame info opening closing

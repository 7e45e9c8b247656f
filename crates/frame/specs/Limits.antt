-- To be believed: the numbers of RULES, Frames.
-- Assumes nothing.
use Rattle.std.specs.Prelude.{ℕ}

-- information, in octets
abbrev pub most_information : ℕ
most_information = 64

-- a run, in bits
abbrev pub most_bits : ℕ
most_bits = 704

-- the output of the reader and of the writer, in octets
abbrev pub information_room : ℕ
information_room = 64

abbrev pub frame_room : ℕ
frame_room = 88

-- flags before and behind the content (7.2.5)
abbrev pub fewest_opening : ℕ
fewest_opening = 2

abbrev pub most_opening : ℕ
most_opening = 5

abbrev pub fewest_closing : ℕ
fewest_closing = 1

abbrev pub most_closing : ℕ
most_closing = 3

-- the content, information and FCS, in octets
abbrev pub fewest_content : ℕ
fewest_content = 3

abbrev pub most_content : ℕ
most_content = 66

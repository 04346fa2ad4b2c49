-- The placing rule at the count limit, computed: 64 packets of one byte. No part of the next is placed there.
use mathlib.Core.Path.{◌≡◌, refl}
use lib.ListN.{replicate}
use Rattle.packing.specs.Packing.{largest_up_to, most_pieces, fit, wholes_from, part_after, part_from, piece_lengths}

pub sixteen-bits : piece_lengths 16 0 20480 0 (replicate 64 1) ≡ replicate 63 1
unfolding largest_up_to most_pieces fit wholes_from part_after part_from
sixteen-bits = refl

-- with a PSD of 128 bytes
pub with-psd : piece_lengths 16 128 20480 0 (replicate 64 1) ≡ replicate 57 1
unfolding largest_up_to most_pieces fit wholes_from part_after part_from
with-psd = refl

pub twelve-bits : piece_lengths 12 128 4096 0 (replicate 64 1) ≡ replicate 63 1
unfolding largest_up_to most_pieces fit wholes_from part_after part_from
twelve-bits = refl

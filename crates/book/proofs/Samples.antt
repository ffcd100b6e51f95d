-- Known values of books (`Samples` of specs/Samples.antt): each is computed from the definitions.
use Rattle.std.proofs.Common.{refl}
use lib.Ieee.{lt, le, eq, neg, is_nan, to_bits, of_bits}
use Rattle.floats.specs.Float.{decimal, within, max}
use Rattle.numbers.specs.DenseSpectrum.{is_table, one_spacing, every, all_within}
use Rattle.optics.specs.Surface.{kind_code, kind_of, is_roughness_given, roughness_min, is_roughness, roughness_holds, eta_min, eta_holds, k_min, all_zero, k_entries_hold, k_holds, outer_holds}
use Rattle.optics.specs.Air.{all_ones}
use Rattle.optics.specs.Check.{check_spectra, check_surface}
use Rattle.book.specs.Bytes.{word, word_at, double, double_in, doubles, doubles_in}
use Rattle.book.specs.Layout.{pairs, book_of, count_in, part_at, parts_from, parts, samples_of, step_for, is_step, part_length, is_part, is_book, none_equal, new_after}
use Rattle.book.specs.Surfaces.{flag_of, part_bytes, surface_in, roughness_kept, surface_on, check_read, offered_on, air_outside, check_written, check_all, same_values, equal_surfaces, equal_for_writing, equal_for_reading}
use Rattle.book.specs.Book.{surfaces_in, check_book, read_book, distinct, surfaces_of, written, check_writing, write_book}
use Rattle.book.specs.Samples.{Samples}

pub samples : Samples
unfolding lt le eq neg is_nan to_bits of_bits decimal within max is_table one_spacing every all_within kind_code kind_of is_roughness_given roughness_min is_roughness roughness_holds eta_min eta_holds k_min all_zero k_entries_hold k_holds outer_holds all_ones check_spectra check_surface word word_at double double_in doubles doubles_in pairs book_of count_in part_at parts_from parts samples_of step_for is_step part_length is_part is_book none_equal new_after flag_of part_bytes surface_in roughness_kept surface_on check_read offered_on air_outside check_written check_all same_values equal_surfaces equal_for_writing equal_for_reading surfaces_in check_book read_book distinct surfaces_of written check_writing write_book
samples = record {
  word_1531 = refl;
  double_1 = refl;
  part_of_95 = refl;
  part_of_471 = refl;
  glass_begins = refl;
  roughness_at_3 = refl;
  eta_at_11 = refl;
  k_at_771 = refl;
  none_written = refl;
  none_without_room = refl;
  none_read = refl;
  one_written = refl;
  one_without_room = refl;
  one_read = refl;
  one_begins = refl;
  two_begin = refl;
  five_zeros = refl;
  byte_behind = refl;
  byte_between = refl;
  kind_2 = refl;
  step_2 = refl;
  flag_2 = refl;
  raised_alike = refl;
  zeros_alike = refl;
  flag_alike = refl;
  twice_written = refl;
  unlike = refl;
  eight = refl;
  nine = refl;
  too_rough = refl;
  agreeing = refl;
  agreeing_too_rough = refl;
  not_as_given = refl;
  not_in_air = refl;
  no_outer = refl;
  first_refused = refl;
  last_refused = refl;
}

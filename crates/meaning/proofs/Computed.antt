-- What a computed example has to see through: all of the meaning.
use Prim.Native.Nat.{ℕ}
use Rattle.meaning.specs.Bits.{bits_high, bits_of, number_high, byte_of, pack_in, pack}
use Rattle.meaning.specs.Bits.{bits_low, number_low, low_bits, pack_low, zeros_first, digits_in, bit_length}
use Rattle.meaning.specs.Bytes.{bytes_of, number_of, word, word_at}
use Rattle.meaning.specs.Codes.{is_code, code_of, read_code, look_code}
use Rattle.meaning.specs.Direct.{flag_bytes, sum_count, sums_at, data_at, last_bits, sum_bytes, direct_parts, write_direct, worst_direct}
use Rattle.meaning.specs.Direct.{parts_fit, flags, sum_at, number_in, unit_direct, true_sums, spare_zero, done_direct}
use Rattle.meaning.specs.Direct.{stretch_from, stretch_of, ended_before, zeros_before, ending_at, stretch_bits, look_direct}
use Rattle.meaning.specs.Elias.{gamma_bits, delta_bits, write_gamma, write_delta, gamma_in, gamma_word, rest_in, delta_word, unit_elias, done_elias}
use Rattle.meaning.specs.DataBytes.{byte_length, fewest, data_bytes, data_in}
use Rattle.meaning.specs.G8IU.{fits, blocks_from, blocks, end_bits, block_control, block, write_g8iu}
use Rattle.meaning.specs.G8IU.{lengths_by, block_lengths, block_in, unit_g8iu, joins_g8iu}
use Rattle.meaning.specs.Groups.{pieces_from, pieces, group_count, control_of, lengths_in, control, controls, write_groups, write_stream}
use Rattle.meaning.specs.Groups.{group_in, group_from, group_at, unit_groups, unit_stream}
use Rattle.meaning.specs.Lists.{all, sum, largest, joined, neighbours, rises, strict, differ}
use Rattle.meaning.specs.Operations.{listed_by, orders_hold, write_listed, write_sheet, orders_of, write_apart}
use Rattle.meaning.specs.Operations.{check, column, read_sheet, look_sheet, fetch, open_reader, call_over, call, numbers_at}
use Rattle.meaning.specs.Operations.{board_holds, board_verdict, count, tally_of, count_board}
use Rattle.meaning.specs.Plan.{plan_size, plan_at, plan_of, good, well_formed, passes, judge_plan, judge, default_plan, plan_used, worst_plan, worst_size}
use Rattle.meaning.specs.Rank.{ones_before, one_at, rank, select}
use Rattle.meaning.specs.Sheet.{is_edition, of_kind, entry_size, entry_bytes, assemble, sheet_bytes, worst_sheet}
use Rattle.meaning.specs.Sheet.{columns_in, columns_of, is_sheet, table_holds, sound, read_column, check_column, largest_count}
use Rattle.meaning.specs.Stages.{least_of, least, less_before, sums_from, values_after, lengths_after, run_values, run_lengths, unroll, write}
use Rattle.meaning.specs.Stages.{small, raised, summed, unrolled, run_header, read, within, numbers_to, seek, look, numbers_through}
use Rattle.meaning.specs.Texts.{text, decimal_in, digits, line, counting, refused_or, kind_text, unfilled}
use Rattle.meaning.specs.Texts.{column_line, number_line, column_lines, listing_lines, listing_text, board_lines, board_text}
use Rattle.meaning.specs.Units.{read_from, read_units, look_from, look_units}
use Rattle.meaning.specs.VByte.{sevens, vbyte, later_in, vbyte_in, unit_vbyte}

unfoldable pub meaning : ℕ
unfolding
    bits_high bits_of number_high byte_of pack_in pack bits_low number_low low_bits pack_low zeros_first digits_in bit_length
    bytes_of number_of word word_at
    is_code code_of read_code look_code
    gamma_bits delta_bits write_gamma write_delta gamma_in gamma_word rest_in delta_word unit_elias done_elias
    byte_length fewest data_bytes data_in
    ones_before one_at rank select
    flag_bytes sum_count sums_at data_at last_bits sum_bytes direct_parts write_direct worst_direct
    parts_fit flags sum_at number_in unit_direct true_sums spare_zero done_direct stretch_from stretch_of ended_before zeros_before ending_at
    stretch_bits look_direct
    fits blocks_from blocks end_bits block_control block write_g8iu
    lengths_by block_lengths block_in unit_g8iu joins_g8iu
    pieces_from pieces group_count control_of lengths_in control controls write_groups write_stream group_in group_from group_at unit_groups unit_stream
    all sum largest joined neighbours rises strict differ
    listed_by orders_hold write_listed write_sheet orders_of write_apart
    check column read_sheet look_sheet fetch open_reader call_over call numbers_at
    board_holds board_verdict count tally_of count_board
    plan_size plan_at plan_of good well_formed passes judge_plan judge default_plan plan_used worst_plan worst_size
    is_edition of_kind entry_size entry_bytes assemble sheet_bytes worst_sheet
    columns_in columns_of is_sheet table_holds sound read_column check_column largest_count
    least_of least less_before sums_from values_after lengths_after run_values run_lengths unroll write
    small raised summed unrolled run_header read within numbers_to seek look numbers_through
    text decimal_in digits line counting refused_or kind_text unfilled
    column_line number_line column_lines listing_lines listing_text board_lines board_text
    read_from read_units look_from look_units
    sevens vbyte later_in vbyte_in unit_vbyte
meaning = 0

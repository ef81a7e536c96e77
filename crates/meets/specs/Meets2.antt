-- Ours meets Demand 2.
use Rattle.demands.specs.Model.{ours}
use Rattle.demands.specs.Demand2.{Demand2}
use Rattle.meets.specs.EventRules.{ours-selects, ours-levels, ours-power_cut, ours_unselected_exchange, ours-unselected_deselect, ours-opcode_byte, ours_closes, ours-done_at_once, ours-jobs_begun, ours-other_verdicts}
use Rattle.meets.specs.ByteRules.{ours-later_byte}
use Rattle.meets.specs.Meets2Reads.{ours_cell_reads, ours_other_reads, ours-status_read}
use Rattle.meets.specs.Meets2Stopped.{ours-stopped_frame}
use Rattle.meets.specs.Meets2Jobs.{ours-page_loads, ours_jobs_from_bytes}

pub meets_2 : Demand2 ours
meets_2 =
    record {
      selects = ours-selects;
      levels = ours-levels;
      power_cut = ours-power_cut;
      unselected_exchange = ours_unselected_exchange;
      unselected_deselect = ours-unselected_deselect;
      opcode_byte = ours-opcode_byte;
      later_byte = ours-later_byte;
      cell_reads = ours_cell_reads;
      other_reads = ours_other_reads;
      page_loads = ours-page_loads;
      status_read = ours-status_read;
      stopped_frame = ours-stopped_frame;
      closes = ours_closes;
      done_at_once = ours-done_at_once;
      jobs_begun = ours-jobs_begun;
      other_verdicts = ours-other_verdicts;
      jobs_from_bytes = ours_jobs_from_bytes;
    }

-- The picture of the last hour.
use Rattle.std.specs.Prelude.{ℕ, ◌+◌, ◌-◌, ◌*◌, ◌/◌, min, max, List, [], ◌∷◌, ◌++◌, decimal}
use Rattle.grid_farm.specs.declared.rows.MinuteRow.{MinuteRow}
use Rattle.grid_farm.specs.Hours.{Hour}
use Rattle.grid_page.specs.declared.hour.Frame.{Frame}
use Rattle.grid_page.specs.declared.parts.TheConstants.{BAR, BAR_END, BAR_HEIGHT, BAR_TOP, MOST_CREATED, PATH, PATH_END, PICTURE, SPACE, TO_RIGHT, UP_OR_DOWN}

-- the most of some number and those of the minutes
abbrev pub most_created : ℕ → List MinuteRow → ℕ
most_created most [] = most
most_created most (row ∷ rows) = most_created (max row.created most) rows

abbrev pub most_unsettled : ℕ → List MinuteRow → ℕ
most_unsettled most [] = most
most_unsettled most (row ∷ rows) = most_unsettled (max row.unsettled most) rows

-- the last minute, and the most of the hour
abbrev pub frame_of : Hour → Frame
frame_of hour = record {
  minute = hour.last.minute;
  created = most_created hour.last.created hour.earlier;
  unsettled = most_unsettled hour.last.unsettled hour.earlier;
}

-- how far to the right a minute stands: ten units each, and the last from 610 on
abbrev pub left_of : ℕ → ℕ → ℕ
left_of last minute = 610 - 10 * min (last - minute) 59

-- how high a number stands: as a part of 100 of the most
abbrev pub height_of : ℕ → ℕ → ℕ
height_of n most = min (n * 100 / max 1 most) 100

-- how far down its top is
abbrev pub top_of : ℕ → ℕ → ℕ
top_of n most = 110 - height_of n most

-- the bar of a minute
abbrev pub with_bar : List ℕ → Frame → MinuteRow → List ℕ
with_bar bytes frame row =
    bytes ++ BAR.now ++ decimal (left_of frame.minute row.minute) ++ BAR_TOP.now
    ++ decimal (top_of row.created frame.created) ++ BAR_HEIGHT.now
    ++ decimal (height_of row.created frame.created) ++ BAR_END.now

abbrev pub with_bars : List ℕ → Frame → List MinuteRow → List ℕ
with_bars bytes frame [] = bytes
with_bars bytes frame (row ∷ rows) = with_bars (with_bar bytes frame row) frame rows

-- the line goes on to a minute, and then up or down
abbrev pub with_step : List ℕ → Frame → MinuteRow → List ℕ
with_step bytes frame row =
    bytes ++ TO_RIGHT.now ++ decimal (left_of frame.minute row.minute) ++ UP_OR_DOWN.now
    ++ decimal (top_of row.unsettled frame.unsettled)

abbrev pub with_steps : List ℕ → Frame → List MinuteRow → List ℕ
with_steps bytes frame [] = bytes
with_steps bytes frame (row ∷ rows) = with_steps (with_step bytes frame row) frame rows

-- the first of these, or else another
abbrev pub first_in : List MinuteRow → MinuteRow → MinuteRow
first_in [] other = other
first_in (row ∷ rows) other = row

-- the first minute that is known
abbrev pub first_row : Hour → MinuteRow
first_row hour = first_in hour.earlier hour.last

-- the line begins there
abbrev pub with_begin : List ℕ → Frame → MinuteRow → List ℕ
with_begin bytes frame row =
    bytes ++ PATH.now ++ decimal (left_of frame.minute row.minute) ++ SPACE.now
    ++ decimal (top_of row.unsettled frame.unsettled)

-- the line
abbrev pub with_line : List ℕ → Frame → Hour → List ℕ
with_line bytes frame hour =
    with_step (with_steps (with_begin bytes frame (first_row hour)) frame hour.earlier) frame hour.last

-- the picture, and what it shows
abbrev pub with_picture : List ℕ → Hour → List ℕ
with_picture bytes hour =
    with_line (with_bar (with_bars (bytes ++ PICTURE.now) (frame_of hour) hour.earlier) (frame_of hour) hour.last)
    (frame_of hour) hour
    ++ PATH_END.now ++ decimal (frame_of hour).created ++ MOST_CREATED.now
    ++ decimal (frame_of hour).unsettled

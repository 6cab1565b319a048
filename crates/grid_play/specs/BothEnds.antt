-- A source and a sink as one link.
use Rattle.grid_outside.specs.Told.{LinkView, SinkView, SourceView}

-- what both tell: the bytes given by the source and those taken by the sink, and how often each failed and the input ended
abbrev pub link_of : SourceView → SinkView → LinkView
link_of source sink = record {
  given = source.given;
  taken = sink.taken;
  read_faults = source.faults;
  write_faults = sink.faults;
  ends = source.ends;
}

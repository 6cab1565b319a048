mod ReportLemmas
mod StatusLemmas

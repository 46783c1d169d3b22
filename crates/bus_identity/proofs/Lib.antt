mod RequestLemmas
mod PayloadLemmas
mod FrameLemmas
mod AnswerLemmas
mod HeardLemmas
mod PgnListLemmas

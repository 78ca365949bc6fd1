mod HeadLaws
mod ReadLaws
mod TailLaws
